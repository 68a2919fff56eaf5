use Rattle.std.proofs.Common.{[], ◌∷◌, List, ap, refl, ◌∙◌}
use Rattle.maildir.specs.declared.folder.Place.TheVariants.{Cur, New}
use Rattle.maildir.specs.declared.standing.NameReading.{NameReading}
use Rattle.maildir.specs.Standings.{HasBegun}
use Rattle.maildir.proofs.DiskCopying.{on_err}
use Rattle.maildir.proofs.standing.first_stale.Goals as goal

pub returns-clause-ok : goal.returns-clause-ok
returns-clause-ok g c =
    let fresh : NameReading = record { place = New; names = c.in_ok-new.new } in
    let current : NameReading = record { place = Cur; names = c.in_ok-cur.cur } in
    record {
      fresh = fresh;
      current = current;
      places = (refl, refl);
      noted = c.in_ok-cur.ensures.ok ∙ ap (λ (rs : List NameReading). current ∷ rs) c.in_ok-new.ensures.ok;
      finds = c.in_ok-found.ensures;
    }

pub returns-in_err-new-clause-err : goal.returns-in_err-new-clause-err
returns-in_err-new-clause-err g c =
    let begun : HasBegun c.args.readings.now.items c.read_names.new.readings.items = record { readings = []; unread = Cur ∷ New ∷ []; noted = c.in_err-new.ensures.err; places = refl } in
    on_err c.from_residual.result begun

pub returns-in_err-cur-clause-err : goal.returns-in_err-cur-clause-err
returns-in_err-cur-clause-err g c =
    let fresh : NameReading = record { place = New; names = c.in_ok-new.new } in
    let begun : HasBegun c.args.readings.now.items c.read_names-2.new.readings.items = record { readings = fresh ∷ []; unread = Cur ∷ []; noted = c.in_err-cur.ensures.err ∙ c.in_ok-new.ensures.ok; places = refl } in
    on_err c.from_residual-in_err-cur.result begun

pub returns-in_err-found-clause-err : goal.returns-in_err-found-clause-err
returns-in_err-found-clause-err g c =
    let fresh : NameReading = record { place = New; names = c.in_ok-new.new } in
    let current : NameReading = record { place = Cur; names = c.in_ok-cur.cur } in
    let noted = c.in_ok-cur.ensures.ok ∙ ap (λ (rs : List NameReading). current ∷ rs) c.in_ok-new.ensures.ok in
    let begun : HasBegun c.args.readings.now.items c.read_names-2.new.readings.items = record { readings = current ∷ fresh ∷ []; unread = []; noted = noted; places = refl } in
    on_err c.from_residual-in_err-found.result begun
