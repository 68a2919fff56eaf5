use Rattle.std.proofs.Common.{ℕ, ◌+◌, List, Option, Some, None, sym, ◌∙◌, ap, subst, Result, Err, arith, Bor}
use Rattle.std.specs.Option.{option_map}
use Rattle.std.proofs.lemmas.Result.{err_from_is_err_and}
use Rattle.imap_link.specs.declared.fault.FarFault.{FarFault}
use Rattle.imap_answers.specs.declared.bodies.FoundBody.{FoundBody}
use Rattle.imap_answers.specs.Bodies.{body_reported, bodies_more, found_at}
use Rattle.imap_answers.specs.Readings.{ReadsAs}
use Rattle.imap_answers.proofs.BodyReported.{FoundSo, none_found, reported_all, speaks_on, first_left, reported_none_of, found_before, found_now, within_bytes, reads_on}
use Rattle.imap_answers.proofs.bodies.body_reported.Goals.{in-Some+in_ok-found_in, in_default}
use Rattle.imap_answers.proofs.bodies.body_reported.Goals as goal

pub loop-init : goal.loop-init
loop-init c = (omega arith, none_found c.args.uid c.args.bytes.now)

pub returns-then-done-bytes-clause-reported : goal.returns-then-done-bytes-clause-reported
returns-then-done-bytes-clause-reported c rs h = reported_all c.args.uid c.args.bytes.now c.loop.done c.loop.found rs (c.loop.invariant.1 rs h) c.if-done-bytes.true

pub first_reply-requires-clause-speaks : goal.first_reply-requires-clause-speaks
first_reply-requires-clause-speaks c = speaks_on c.args.uid c.args.bytes.now c.loop.done c.loop.found c.requires.replies (c.loop.invariant.1 c.requires.replies c.requires.spelled)

pub returns-in_err-octets-clause-reported : goal.returns-in_err-octets-clause-reported
returns-in_err-octets-clause-reported c rs h =
    let p = err_from_is_err_and c.from_residual-in_err-octets.result c.from_residual-in_err-octets.ensures.1 in
    let bytes = c.args.bytes.now in
    let uid = c.args.uid in
    let reply = c.in_ok-reply.reply in
    let so = c.loop.invariant.1 rs h in
    let first = first_left uid bytes c.loop.done c.loop.found rs so reply c.in_ok-reply.len c.in_ok-reply.ensures.first in
    subst (λ (r : Result (Option FoundBody) FarFault). ReadsAs (found_at bytes) r (body_reported uid rs)) (sym (p.1 ∙ ap Err p.2))
    (reads_on (Option (Bor (List ℕ))) (Option FoundBody) (Option (List ℕ)) (Option (List ℕ)) (option_map (λ b. b.now)) (found_at bytes) (bodies_more uid (Some None) reply) (body_reported uid rs)
    (reported_none_of uid bytes c.loop.done c.loop.found rs so reply c.in_ok-reply.len first)
    c.in_err-octets.field-0.0 c.in_err-octets.ensures.reported)

pub loop-preserved : goal.loop-preserved
loop-preserved c =
    let bytes = c.args.bytes.now in
    let uid = c.args.uid in
    let reply = c.in_ok-reply.reply in
    let len = c.in_ok-reply.len in (
      within_bytes bytes c.loop.done len c.loop.invariant.0 c.in_ok-reply.ensures.within,
      λ rs h.
          let so = c.loop.invariant.1 rs h in
          let first = first_left uid bytes c.loop.done c.loop.found rs so reply len c.in_ok-reply.ensures.first in
          let states = λ (x : Option (Bor (List ℕ))). Some (option_map (λ b. b.now) x) in
          let goes_on = λ (x : Option FoundBody). FoundSo uid bytes (c.loop.done + len) x rs in
          elim c.match-branch-3.branch [
            | in-Some+in_ok-found_in w ↦
                subst goes_on (sym w.found-is)
                (found_now uid bytes c.loop.done c.loop.found rs so reply len first w.in_ok-found_in.field-0 w.in-Some.octets.now (c.in_ok-octets.ensures.reported ∙ ap states w.in-Some.is) w.in_ok-found_in.ensures)
            | in_default w ↦
                subst goes_on (sym w.found-is) (found_before uid bytes c.loop.done c.loop.found rs so reply len first (c.in_ok-octets.ensures.reported ∙ ap states w.in_default.is))
          ],
    )
