use Rattle.std.proofs.Common.{◌≡◌, ◌++◌, map}
use Rattle.std.specs.Option.{option_map}
use Rattle.std.specs.Map.{keys_of}
use Rattle.imap_answers.specs.Listings.{items_reported}
use Rattle.imap_answers.proofs.reported.Rows.items.Given as goal

abbrev pub invariant-loop-uid : goal.invariant-loop-uid
invariant-loop-uid l =
    (option_map (λ items. l.items.items ++ items) (items_reported l.uid-iterator) ≡ items_reported l.self.rows)
    × (map (λ i. i.uid) l.items.items ++ keys_of l.uid-iterator ≡ keys_of l.self.rows)
