use Rattle.mail_stores.proofs.open_stores.OpenStores.open_sides.Goals as goal

pub returns-in-Ok-far_side-clause-near : goal.returns-in-Ok-far_side-clause-near
returns-in-Ok-far_side-clause-near g c =
    let of = c.sides_of.ensures in
    rw (of.folder, of.shelf, of.look) c.in-Ok.ensures
