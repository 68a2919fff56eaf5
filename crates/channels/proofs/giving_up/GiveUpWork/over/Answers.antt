use Rattle.std.proofs.Common.{◌≡◌, ap, subst, sym}
use Rattle.book.specs.declared.book.Pending.TheVariants.{Planned}
use Rattle.book.specs.Books.{Holds}
use Rattle.outside.specs.Calls.{Seen}
use Rattle.outside.specs.Devices.{Device}
use Rattle.runner.specs.GivingUp.{GivesUpSo, KeepsBoxes}
use Rattle.channels.proofs.giving_up.GiveUpWork.over.Goals as goal

-- what was opened again has the same device
pub returns : goal.returns
returns g c =
    let same : (g.O.Outside.seen c.reopen.new.self).device ≡ (g.O.Outside.seen c.args.outside.now).device = ap (λ (s : Seen). s.device) c.reopen.ensures.seen in
    record {
      did = λ honest. record {
        boxes = subst (λ (d : Device). KeepsBoxes g.O.Outside.ours g.O.Outside.alone d (g.O.Outside.seen c.give_up.new.outside).device) same (c.give_up.ensures.boxes honest);
        gives_up = λ s w held.
            subst (λ (d : Device). GivesUpSo g.O.Outside.ours g.O.Outside.alone s w.journal d (g.O.Outside.seen c.give_up.new.outside).device c.give_up.result) same
            (c.give_up.ensures.gives_up honest s w (subst (λ (d : Device). Holds d.files s (Planned w)) (sym same) held));
      };
    }
