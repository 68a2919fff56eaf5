use Rattle.std.proofs.Common.{◌≡◌, ℕ, false, List, ◌++◌, take}
use Rattle.link_face.specs.Rows.{is_between_quotes}
use Rattle.link_face.proofs.token.quote_place.Given as goal

abbrev pub invariant-loop-i : goal.invariant-loop-i
invariant-loop-i l = (more : List ℕ) → is_between_quotes false (take l.i l.bytes ++ more) ≡ is_between_quotes l.after_slash more
