use Rattle.std.proofs.Common.{◌≡◌, ℕ, List, Bor, map, drop}
use Rattle.std.specs.List.{list_all}
use Rattle.rules.specs.SyncWords.{is_known}
use Rattle.rules.proofs.sync_words.are_known.Given as goal

-- whether the words are known is whether those that are left are
abbrev pub invariant-loop-text : goal.invariant-loop-text
invariant-loop-text l = list_all is_known (map (λ (t : Bor (List ℕ)). t.now) (drop l.text-index l.texts)) ≡ list_all is_known (map (λ (t : Bor (List ℕ)). t.now) l.texts)
