use Rattle.std.proofs.Common.{ℕ, ap, ◌∙◌, map, rules, tests}
use Rattle.std.specs.Prelude.{◌==◌, List, Ok}
use Rattle.std.specs.Borrow.{Bor}
use Rattle.std.proofs.lemmas.Iterator.Consumers.{map_from_collect}
use Rattle.std.proofs.lemmas.Iterator.Splits.{YieldsList-from_slice_split}
use Rattle.worlds.proofs.OptionLemmas.{cells_of_words}
use Rattle.worlds.proofs.read_options.read_cells.Goals as goal

pub returns : goal.returns
returns c =
    let split = c.split.ensures in
    let parts = map_from_collect {E = Unit {0}} (Ok c.in_ok-words.words) c.in_ok-words.ensures.ran
    (YieldsList-from_slice_split _ (λ (b : ℕ). b == 32) c.args.text.now split.rest split.done split.closure (λ x b q k. search (rules, tests))) in
    cells_of_words c.args.text.now _ c.sync_ops.result c.ok.result (ap (λ (ws : List (Bor (List ℕ))). map (λ w. w.now) ws) c.deref.ensures.value ∙ parts) c.sync_ops.ensures c.ok.ensures.value
