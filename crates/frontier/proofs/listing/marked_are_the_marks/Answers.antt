use Rattle.frontier.proofs.Numbers.{members, ascends}
use Rattle.frontier.proofs.listing.marked_are_the_marks.Goals as goal

pub returns : goal.returns
returns c = λ marks. (λ t. members marks t, ascends marks)
