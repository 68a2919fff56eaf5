-- Worked examples of the words of Sync, computed.
use Rattle.std.specs.Prelude.{◌≡◌, refl, ℕ, true, false, List, [], ◌∷◌, codes, Result, Ok, Err}
use Rattle.rules.specs.declared.options.Cells.{Cells}
use Rattle.rules.specs.declared.options.Directions.{Directions}
use Rattle.rules.specs.declared.sync_words.SyncFault.{SyncFault}
use Rattle.rules.specs.declared.sync_words.SyncFault.TheVariants.{BadWord, CellTwice}
use Rattle.rules.specs.SyncWords.{is_known, are_words, times, says, says_compound, says_way, says_type, asserting, is_cell_twice, is_word_twice, is_asserted_twice, is_twice, is_on, directions_on, sync_cells}

abbrev none : Directions
none = record { pull = false; push = false }

abbrev pull : Directions
pull = record { pull = true; push = false }

abbrev push : Directions
push = record { pull = false; push = true }

abbrev both : Directions
both = record { pull = true; push = true }

-- opens what the examples compute
chosen : List (List ℕ) → Result Cells SyncFault
unfolding is_known are_words times says says_compound says_way says_type asserting is_cell_twice is_word_twice is_asserted_twice is_twice is_on directions_on sync_cells
chosen texts = sync_cells texts

a_cell_beside_its_direction_is_twice : sync_cells (codes "PullNew" ∷ codes "Pull" ∷ []) ≡ Err CellTwice
unfolding chosen
a_cell_beside_its_direction_is_twice = refl

two_words_that_share_a_cell_are_twice : sync_cells (codes "PullNew" ∷ codes "Gone" ∷ codes "Push" ∷ []) ≡ Err CellTwice
unfolding chosen
two_words_that_share_a_cell_are_twice = refl

cells_and_a_direction : sync_cells (codes "PullNew" ∷ codes "PullGone" ∷ codes "Push" ∷ []) ≡ Ok (record { new = both; gone = both; flags = push })
unfolding chosen
cells_and_a_direction = refl

a_direction_and_a_type_cross : sync_cells (codes "pull" ∷ codes "GONE" ∷ []) ≡ Ok (record { new = none; gone = pull; flags = none })
unfolding chosen
a_direction_and_a_type_cross = refl

none_is_no_cell : sync_cells (codes "None" ∷ []) ≡ Ok (record { new = none; gone = none; flags = none })
unfolding chosen
none_is_no_cell = refl

full_is_every_cell : sync_cells (codes "Full" ∷ []) ≡ Ok (record { new = both; gone = both; flags = both })
unfolding chosen
full_is_every_cell = refl

no_word_is_refused : sync_cells [] ≡ Err BadWord
unfolding chosen
no_word_is_refused = refl

an_unknown_word_is_refused : sync_cells (codes "Pull" ∷ codes "Delete" ∷ []) ≡ Err BadWord
unfolding chosen
an_unknown_word_is_refused = refl
