use Rattle.walk.proofs.Seeking.{result_inside}
use Rattle.walk.proofs.seek.find.Goals as goal

pub returns-clause-inside : goal.returns-clause-inside
returns-clause-inside c = result_inside c.args.bytes.now c.args.group c.args.index c.find_from.result c.find_from.ensures
