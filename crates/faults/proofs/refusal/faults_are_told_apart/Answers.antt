use Rattle.faults.proofs.Apart.{things_apart, faults_apart}
use Rattle.faults.proofs.refusal.faults_are_told_apart.Goals as goal

pub returns : goal.returns
returns c = (things_apart, faults_apart)
