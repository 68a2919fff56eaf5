use Rattle.std.proofs.Common.{◌∙◌, ℕ, List, Some, ap, sym, codes, option_map}
use Rattle.std.specs.Borrow.{Bor}
use Rattle.clap.specs.Words.{found_of}
use Rattle.clap.proofs.WalkLemmas.{first_value-rows}
use Rattle.command_line.proofs.read.file.Goals as goal

pub returns-in_ok-from_str-in-Some : goal.returns-in_ok-from_str-in-Some
returns-in_ok-from_str-in-Some c =
    let found = c.get_str.ensures ∙ first_value-rows (found_of c.args.matches.now) (codes "file") in
    let there = ap (option_map (λ (t : Bor (List ℕ)). t.now)) (sym c.in-Some.is) in
    ap Some c.in_ok-from_str-in-Some.ensures.ok ∙ there ∙ found

pub returns-in-None : goal.returns-in-None
returns-in-None c =
    let found = c.get_str.ensures ∙ first_value-rows (found_of c.args.matches.now) (codes "file") in
    ap (option_map (λ (t : Bor (List ℕ)). t.now)) (sym c.in-None.is) ∙ found
