use Rattle.std.proofs.Common.{◌≡◌, ◌∙◌, ℕ, ap, length, rules, take, tests}
use Rattle.std.specs.Prelude.{not, position, unwrap_or, Option}
use Rattle.std.specs.Char.{is_ascii_digit}
use Rattle.std.proofs.lemmas.Iterator.{YieldsList-from_slice}
use Rattle.std.proofs.lemmas.Iterator.Search.{position_from_yields_List}
use Rattle.maildir.specs.Names.{uid_of}
use Rattle.maildir.specs.Standings.{digits_ahead, uid_ahead}
use Rattle.maildir.proofs.standing.reported_uid.Goals as goal

pub returns : goal.returns
returns c =
    let rest = c.in_ok-following.following.now in
    let found : c.position.result ≡ position (λ b. not (is_ascii_digit b)) rest =
    position_from_yields_List (λ (b : ℕ). not (is_ascii_digit b)) _ _ _ c.position.ensures.ran (YieldsList-from_slice rest c.iter.ensures.rest)
    (λ x b q k. search (rules, tests)) in
    let cut : uid_of (digits_ahead rest) ≡ uid_ahead c.args.piece.now = search rules in
    c.read_uid.ensures
    ∙ ap (λ (n : ℕ). uid_of (take n rest)) (c.unwrap_or-end.ensures ∙ ap (λ (o : Option ℕ). unwrap_or o (length rest)) found)
    ∙ cut
