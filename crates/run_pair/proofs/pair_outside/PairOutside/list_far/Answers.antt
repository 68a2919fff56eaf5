use Rattle.std.proofs.Common.{◌∙◌, ap, sym}
use Rattle.mailcore.specs.declared.side.Side.TheVariants as side
use Rattle.outside.specs.Devices.{Device}
use Rattle.outside.specs.Opened.{shown_far, with_listing}
use Rattle.run_pair.specs.BookParts.{kept_of}
use Rattle.run_pair.specs.Pairs.{near_answered, opened_of}
use Rattle.run_pair.proofs.Noting.{same_device, same_opened}
use Rattle.run_pair.proofs.Opening.{far_listed}
use Rattle.run_pair.proofs.pair_outside.PairOutside.list_far.Goals as goal

pub returns-clause-opened : goal.returns-clause-opened
returns-clause-opened g c =
    let p = c.look_far.new.self in
    let q = c.note_far_listing.new.self in
    let listing = c.in_ok-listing.listing in
    let noted = c.note_far_listing.ensures in
    ap (λ x. opened_of (record q { near_validities = x })) noted.near
    ∙ same_opened p q q.far_validities.items p.near_validities.items q.listed.devices noted.parts
    ∙ far_listed _ (near_answered p) listing.validity p.far_validities.items _ p.listed.devices _ _ (kept_of p.book) _ c.in_ok-listing.ensures.opened c.requires.is_open noted.validities noted.devices
    ∙ ap (λ (d : Device). with_listing side.Far listing.validity (shown_far listing.next d) (opened_of c.args.self.now)) (sym (same_device p q noted.parts))
