use Rattle.std.proofs.Common.{◌∙◌, ap, refl, rules, take}
use Rattle.wire_reader.specs.Scanning.{scanned, place_from}
use Rattle.imap_link.proofs.BufferExits.{slice_is}
use Rattle.link_face.proofs.SoughtLemmas.{next_within, next_found, none_found}
use Rattle.link_face.proofs.extent.ReplyExtent.next_place.Goals as goal

pub overflow_add-self : goal.overflow_add-self
overflow_add-self c =
    let bytes = c.args.bytes.now in
    let old = c.args.self.now in
    let is = slice_is bytes bytes old.scanned refl in
    let within = next_within old bytes c.requires c.in-Some.count (c.in-Some.ensures.place ∙ ap (place_from 0 old.scanner) is) in
    search rules

pub returns-in-Some : goal.returns-in-Some
returns-in-Some c =
    let bytes = c.args.bytes.now in
    let old = c.args.self.now in
    let is = slice_is bytes bytes old.scanned refl in
    next_found old bytes c.requires c.in-Some.count c.advance.new.self (c.in-Some.ensures.place ∙ ap (place_from 0 old.scanner) is) (c.in-Some.ensures.moves ∙ ap (λ l. scanned old.scanner (take c.in-Some.count l)) is)

pub returns-in-None : goal.returns-in-None
returns-in-None c =
    let bytes = c.args.bytes.now in
    let old = c.args.self.now in
    let is = slice_is bytes bytes old.scanned refl in (
      none_found old bytes c.requires c.advance.new.self (c.in-None.ensures.place ∙ ap (place_from 0 old.scanner) is) (c.in-None.ensures.moves ∙ ap (scanned old.scanner) is),
      refl,
    )
