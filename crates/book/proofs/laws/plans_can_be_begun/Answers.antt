use Rattle.book.proofs.BegunPlans.{begun_agrees}
use Rattle.book.proofs.laws.plans_can_be_begun.Goals as goal

pub returns : goal.returns
returns c = begun_agrees
