use Rattle.std.proofs.Common.{◌≡◌}
use Rattle.mail_sides.specs.NearSides.{seen_of}
use Rattle.box_worlds.proofs.reader.WorldReader.waiting.Given as goal

-- what is read stays
abbrev pub invariant-loop-place : goal.invariant-loop-place
invariant-loop-place g l = record {
  was_honest : g.F.Folder.honest l.near.near.folder → g.F.Folder.honest l.initial.near.near.folder;
  keeps : g.F.Folder.honest l.near.near.folder → (seen_of l.near).stored ≡ (seen_of l.initial.near).stored;
}
