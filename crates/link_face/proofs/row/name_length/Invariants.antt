use Rattle.std.proofs.Common.{◌≡◌, ℕ, false, List, ◌++◌, take}
use Rattle.link_face.specs.Rows.{is_name}
use Rattle.link_face.proofs.row.name_length.Given as goal

abbrev pub invariant-loop-i : goal.invariant-loop-i
invariant-loop-i l = (more : List ℕ) → is_name false (take l.i l.bytes ++ more) ≡ is_name l.is_section more
