use Rattle.std.proofs.Common.{◌∙◌, ap, sym}
use Rattle.mailcore.specs.declared.side.Side.TheVariants as side
use Rattle.outside.specs.Devices.{Device}
use Rattle.outside.specs.Opened.{with_listing}
use Rattle.run_pair.specs.BookParts.{kept_of}
use Rattle.run_pair.specs.Pairs.{far_answered, opened_of}
use Rattle.run_pair.proofs.Noting.{same_device, same_opened}
use Rattle.run_pair.proofs.Opening.{near_listed}
use Rattle.run_pair.proofs.pair_outside.PairOutside.list_near.Goals as goal

pub returns-clause-opened : goal.returns-clause-opened
returns-clause-opened g c =
    let p = c.look_near.new.self in
    let q = c.note_near_listing.new.self in
    let listing = c.in_ok-listing.listing in
    let noted = c.note_near_listing.ensures in
    ap (λ x. opened_of (record q { far_validities = x })) noted.far
    ∙ same_opened p q p.far_validities.items q.near_validities.items q.listed.devices noted.parts
    ∙ near_listed (far_answered p) _ listing.validity p.near_validities.items _ p.listed.devices _ _ (kept_of p.book) _ c.in_ok-listing.ensures.opened c.requires.is_open noted.validities noted.devices
    ∙ ap (λ (d : Device). with_listing side.Near listing.validity (d) (opened_of c.args.self.now)) (sym (same_device p q noted.parts))
