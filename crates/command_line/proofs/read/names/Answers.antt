use Rattle.std.proofs.Common.{◌∙◌, List, [], Option, ap, sym, codes, map, option_map, unwrap_or, arith}
use Rattle.std.specs.Borrow.{Bor}
use Rattle.std.specs.String.{string_bytes}
use Rattle.std.proofs.lemmas.List.{take_all}
use Rattle.clap.specs.Words.{Text, found_of}
use Rattle.clap.proofs.WalkLemmas.{raw_values-rows}
use Rattle.command_line.proofs.read.names.Goals as goal
use Rattle.command_line.proofs.read.names.Goals.{in-Some+else-loop-name-test, in_default}

abbrev texts_of : Option (Bor (List (Bor Text))) → List Text
texts_of found = unwrap_or (option_map (λ s. map (λ t. t.now) s.now) found) []

pub returns : goal.returns
returns c =
    let found = ap (λ (o : Option (List Text)). unwrap_or o []) (c.get_strs.ensures ∙ raw_values-rows (found_of c.args.matches.now) (codes "channel")) in
    elim c.match-get_strs.branch [
      | in-Some+else-loop-name-test w ↦
          ap (λ names. map string_bytes names.items) w.names-is ∙ w.loop-name.invariant
          ∙ ap (map (λ (t : Bor Text). t.now)) (take_all w.loop-name.name-index w.in-Some.found.now (omega arith))
          ∙ ap texts_of (sym w.in-Some.is) ∙ found
      | in_default w ↦ ap (λ names. map string_bytes names.items) w.names-is ∙ ap (map string_bytes) c.new-names.ensures.items ∙ ap texts_of (sym w.in_default.is) ∙ found
    ]
