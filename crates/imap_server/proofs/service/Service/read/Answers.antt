use Rattle.std.proofs.Common.{◌≡◌, ℕ, List, ◌+◌, ◌-◌, length, drop, take, refl, sym, subst, arith}
use Rattle.std.proofs.lemmas.List.{length-drop, take_all}
use Rattle.imap_session.specs.Servers.{Server}
use Rattle.imap_session.specs.Serving.{FeedsSome}
use Rattle.imap_server.specs.Unreads.{end_of}
use Rattle.imap_server.specs.Taking.{TookSome}
use Rattle.imap_server.proofs.LineFeeds.{on_err_given, took_none, took_more, took_part}
use Rattle.imap_server.proofs.service.Service.read.Goals as goal

pub loop-done-init : goal.loop-done-init
loop-done-init c = (took_none c.args.self.now c.args.unread c.args.bytes.now c.args.out.now.items c.requires, omega arith)

pub returns-in_err-after-clause-err : goal.returns-in_err-after-clause-err
returns-in_err-after-clause-err c =
    on_err_given c.from_residual.result
    (subst (λ (s : Server). FeedsSome (end_of c.args.self.now c.args.unread) c.args.bytes.now s) (sym c.in_err-after.ensures.err)
    (took_part (end_of c.args.self.now c.args.unread) c.loop-done.self c.loop-done.unread c.args.bytes.now c.args.out.now.items c.loop-done.out.items c.loop-done.done c.loop-done.invariant.0))

pub loop-done-preserved : goal.loop-done-preserved
loop-done-preserved c =
    let bytes = c.args.bytes.now in
    let done = c.loop-done.done in
    let rest : take (length bytes - done) (drop done bytes) ≡ drop done bytes = take_all (length bytes - done) (drop done bytes) (omega (arith, length-drop done bytes)) in
    let t : TookSome (end_of c.loop-done.self c.loop-done.unread) (drop done bytes) c.loop-done.out.items c.read_some.new.out.items c.read_some.new.self c.in_ok-after.after c.in_ok-after.count =
    subst (λ (l : List ℕ). TookSome (end_of c.loop-done.self c.loop-done.unread) l c.loop-done.out.items c.read_some.new.out.items c.read_some.new.self c.in_ok-after.after c.in_ok-after.count) rest c.in_ok-after.ensures.ok in
    let within = t.within in
    let so_far = c.loop-done.invariant.1 in (
      took_more (end_of c.args.self.now c.args.unread) c.loop-done.self c.read_some.new.self c.loop-done.unread c.in_ok-after.after bytes c.args.out.now.items c.loop-done.out.items c.read_some.new.out.items done
          c.in_ok-after.count (done + c.in_ok-after.count) c.loop-done.invariant.0 t refl,
      omega (arith, within, so_far, length-drop done bytes),
    )
