use Rattle.std.proofs.Common.{◌≡◌, ◌∙◌, Bool, false, ap, sym, if◌then◌else◌}
use Rattle.imap_session.specs.Servers.{Server, news}
use Rattle.imap_session.specs.Answering.{only}
use Rattle.imap_session.specs.Serving.{ends, fault_reply}
use Rattle.imap_server.specs.Dropping.{loses_octets}
use Rattle.imap_server.specs.Taking.{reporting, dropped_answer}
use Rattle.imap_server.specs.Unreads.{fault_of}
use Rattle.imap_server.proofs.WritingLemmas.{wrote_then}
use Rattle.imap_server.proofs.CommandLemmas.{answered_as}
use Rattle.imap_server.proofs.service.Service.end_line.Goals as goal

pub returns-clause-ok : goal.returns-clause-ok
returns-clause-ok c =
    let s = c.args.self.now in
    let fault = fault_of c.args.dropped.fault in
    let last = c.args.dropped.last in
    let kept : loses_octets fault last ≡ false = sym c.loses_octets.ensures ∙ c.if-loses_octets.false in (
      c.nothing.ensures,
      answered_as (reporting (dropped_answer fault last) s) (reporting (λ (t : Server). only t (fault_reply fault)) s) _ _ _
          (ap (λ (b : Bool). reporting (λ (t : Server). if b then ends t else only t (fault_reply fault)) s) kept)
          (record { wrote = wrote_then (news s) _ _ _ _ c.in_ok-say_news.ensures c.in_ok-say_fault.ensures; after_is = c.set_news.ensures }),
    )
