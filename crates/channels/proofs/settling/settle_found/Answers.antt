use Rattle.std.proofs.Common.{◌≡◌, IfOk, ◌∙◌, subst, sym}
use Rattle.channels.specs.Asked.{joined_of}
use Rattle.channels.proofs.ChannelLemmas.{SoFar-matching, SoFar-pair, SoFar-unnamed}
use Rattle.config.specs.declared.config.Boxes.{Boxes}
use Rattle.config.specs.declared.config.Boxes.TheVariants.{Matching}
use Rattle.channels.specs.declared.verdict.Verdict.TheVariants.{Clean}
use Rattle.channels.specs.Lendings.{Lends}
use Rattle.channels.specs.Settlings.{InTurn, IsFoundSettled, IsNamedSettled}
use Rattle.channels.specs.Runs.{MayRunFound}
use Rattle.channels.proofs.LendLemmas.{IfClean-as, IsFoundSettled-matching, Lends-as, never_clean}
use Rattle.channels.proofs.RunLemmas.{Lends-matching, Lends-none, Lends-pair, MayRunFound-none}
use Rattle.channels.proofs.settling.settle_found.Goals as goal

-- a mailbox on each side
pub returns-in-Pair-clause-asked : goal.returns-in-Pair-clause-asked
returns-in-Pair-clause-asked g c =
    SoFar-pair g.S.BoxLists.noted c.args.work.options.now (joined_of c.args.work.of) c.args.found.now.far.items c.args.found.now.near.items
    c.in-Pair.far c.in-Pair.near c.absent.result c.args.work.of.channel.now.boxes (g.S.BoxLists.asked c.args.stores.now.stores.now)
    (g.S.BoxLists.asked c.settle_box.new.stores.stores.now) c.settle_box.result c.in-Pair.is c.absent.ensures c.settle_box.ensures.asked

-- those that the patterns choose
pub returns-in-Ok-clause-asked : goal.returns-in-Ok-clause-asked
returns-in-Ok-clause-asked g c =
    SoFar-matching g.S.BoxLists.noted c.args.work.options.now (joined_of c.args.work.of) c.args.found.now.far.items c.args.found.now.near.items
    c.deref.result.now c.in-Matching.patterns c.args.work.of.channel.now.boxes (g.S.BoxLists.asked c.args.stores.now.stores.now)
    (g.S.BoxLists.asked c.settle_boxes.new.stores.stores.now) c.settle_boxes.result c.in-Matching.is (λ is_chosen states. c.deref.ensures.value ∙ c.in-Ok.ensures is_chosen states) c.settle_boxes.ensures.asked

-- no memory for their names
pub returns-in-Err-clause-asked : goal.returns-in-Err-clause-asked
returns-in-Err-clause-asked g c =
    SoFar-unnamed g.S.BoxLists.noted c.args.work.options.now (joined_of c.args.work.of) c.args.found.now.far.items c.args.found.now.near.items
    c.in-Matching.patterns c.args.work.of.channel.now.boxes (g.S.BoxLists.asked c.args.stores.now.stores.now)
    (g.S.BoxLists.asked c.print_list.new.self.stores.now) c.print_list.result c.in-Matching.is c.print_list.ensures.asks.1 c.print_list.ensures.over

-- without a fault they are settled
pub returns-in-Pair-clause-settled : goal.returns-in-Pair-clause-settled
returns-in-Pair-clause-settled g c =
    subst (λ (boxes : Boxes). IfOk c.settle_box.result (λ v. v ≡ Clean → Lends g.S.BoxLists.honest g.S.BoxLists.lent c.args.stores.now.stores.now
    c.settle_box.new.stores.stores.now (IsFoundSettled g.S.BoxLists.opening g.R.Rng.stream c.args.work.options.now (joined_of c.args.work.of)
    c.args.found.now.far.items c.args.found.now.near.items boxes))) (sym c.in-Pair.is) c.settle_box.ensures.settled

pub returns-in-Ok-clause-settled : goal.returns-in-Ok-clause-settled
returns-in-Ok-clause-settled g c =
    subst (λ (boxes : Boxes). IfOk c.settle_boxes.result (λ v. v ≡ Clean → Lends g.S.BoxLists.honest g.S.BoxLists.lent c.args.stores.now.stores.now
    c.settle_boxes.new.stores.stores.now (IsFoundSettled g.S.BoxLists.opening g.R.Rng.stream c.args.work.options.now (joined_of c.args.work.of)
    c.args.found.now.far.items c.args.found.now.near.items boxes))) (sym c.in-Matching.is)
    (IfClean-as c.settle_boxes.result (Lends-as
    (InTurn (IsNamedSettled g.S.BoxLists.opening g.R.Rng.stream c.args.work.options.now (joined_of c.args.work.of)) c.deref.result.now)
    (IsFoundSettled g.S.BoxLists.opening g.R.Rng.stream c.args.work.options.now (joined_of c.args.work.of) c.args.found.now.far.items c.args.found.now.near.items (Matching c.in-Matching.patterns))
    (λ more. IsFoundSettled-matching g.S.BoxLists.opening g.R.Rng.stream c.args.work.options.now (joined_of c.args.work.of) c.args.found.now.far.items c.args.found.now.near.items
    c.deref.result.now c.in-Matching.patterns more (λ is_chosen states. c.deref.ensures.value ∙ c.in-Ok.ensures is_chosen states)))
    c.settle_boxes.ensures.settled)

pub returns-in-Err-clause-settled : goal.returns-in-Err-clause-settled
returns-in-Err-clause-settled g c = never_clean _ c.print_list.result c.print_list.ensures.reported

-- whatever was reported, each was run once at most
pub returns-in-Pair-clause-runs : goal.returns-in-Pair-clause-runs
returns-in-Pair-clause-runs g c =
    Lends-pair g.S.BoxLists.opening g.R.Rng.stream c.args.work.options.now (joined_of c.args.work.of) c.args.found.now.far.items c.args.found.now.near.items
    c.in-Pair.far c.in-Pair.near c.args.work.of.channel.now.boxes c.in-Pair.is c.settle_box.ensures.runs

pub returns-in-Ok-clause-runs : goal.returns-in-Ok-clause-runs
returns-in-Ok-clause-runs g c =
    Lends-matching g.S.BoxLists.opening g.R.Rng.stream c.args.work.options.now (joined_of c.args.work.of) c.args.found.now.far.items c.args.found.now.near.items
    c.deref.result.now c.in-Matching.patterns c.args.work.of.channel.now.boxes c.in-Matching.is
    (λ is_chosen states. c.deref.ensures.value ∙ c.in-Ok.ensures is_chosen states) c.settle_boxes.ensures.runs

pub returns-in-Err-clause-runs : goal.returns-in-Err-clause-runs
returns-in-Err-clause-runs g c =
    Lends-none (MayRunFound g.S.BoxLists.opening g.R.Rng.stream c.args.work.options.now (joined_of c.args.work.of) c.args.found.now.far.items
    c.args.found.now.near.items c.args.work.of.channel.now.boxes)
    (MayRunFound-none g.S.BoxLists.opening g.R.Rng.stream c.args.work.options.now (joined_of c.args.work.of) c.args.found.now.far.items c.args.found.now.near.items
    c.args.work.of.channel.now.boxes) c.print_list.ensures.lent
