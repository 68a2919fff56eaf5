-- No call of a link changes by which map the flags of its server are seen, where its connection stands.
use Rattle.std.proofs.Common.{◌≡◌, ◌∙◌, ℕ, true, List, [], ◌∷◌, take, ap, refl, subst, sym, Result, Ok, Err}
use Rattle.std.specs.Prelude.{is_ok, IfOk, OnErr, OnOk}
use Rattle.std.proofs.Math.Logic.{∥∥₁_elim, ∥∥₁_map}
use Rattle.std.proofs.Props.{props}
use Rattle.mailcore.specs.Visitors.{Visitors}
use Rattle.mailcore.specs.declared.keywords.Keyword.{Keyword}
use Rattle.imap_commands.specs.declared.command.Request.{Request}
use Rattle.imap_commands.specs.declared.command.Request.TheVariants as requests
use Rattle.imap_replies.specs.declared.reply.Reply.{Reply}
use Rattle.imap_session.specs.Servers.{Condition, Server, Quiet, is_over, reported}
use Rattle.imap_session.specs.Steps.{StepOf}
use Rattle.imap_session.specs.Portions.{Item, Asks, Faulty, Ends, Late}
use Rattle.imap_session.specs.Unread.{Kept, Holds}
use Rattle.imap_session.specs.Serving.{Does, Portion, Serve, Takes, IsUnread}
use Rattle.imap_session.specs.Lines.{Line, Receives, Starts}
use Rattle.imap_session.specs.Visits.{Visits}
use Rattle.imap_session.proofs.Opening.{new_end_is_empty}
use Rattle.imap_link.specs.declared.link.LinkFault.{LinkFault}
use Rattle.imap_link.specs.Sending.{SendsThen, SomeThen, visited}
use Rattle.imap_client.specs.Seen.{KeepsMap}
use Rattle.imap_client.specs.Standing.{Stands}
use Rattle.imap_client.proofs.Lasting.{step_so}
use Rattle.imap_client.proofs.Mapped.{map_lasts}

-- ---- what a server does

module _ (s : Server) (tag : List ℕ) (said : List Reply) (new : Server) where
  step_keeps : (r : Request) → StepOf s tag r said new → KeepsMap s new
  step_keeps requests.Capability h = step_so (KeepsMap s) s (map_lasts s) tag said new requests.Capability refl h
  step_keeps requests.Noop h = step_so (KeepsMap s) s (map_lasts s) tag said new requests.Noop refl h
  step_keeps requests.Logout h = ap (λ (t : Server). t.keywords) h.1
  step_keeps (requests.Login user password) h = step_so (KeepsMap s) s (map_lasts s) tag said new (requests.Login user password) refl h
  step_keeps (requests.Enable names) h = step_so (KeepsMap s) s (map_lasts s) tag said new (requests.Enable names) refl h
  step_keeps (requests.List pattern) h = step_so (KeepsMap s) s (map_lasts s) tag said new (requests.List pattern) refl h
  step_keeps (requests.Create name) h = step_so (KeepsMap s) s (map_lasts s) tag said new (requests.Create name) refl h
  step_keeps (requests.Select name) h = step_so (KeepsMap s) s (map_lasts s) tag said new (requests.Select name) refl h
  step_keeps (requests.Append name flags message) h = step_so (KeepsMap s) s (map_lasts s) tag said new (requests.Append name flags message) refl h
  step_keeps (requests.Fetch set what) h = step_so (KeepsMap s) s (map_lasts s) tag said new (requests.Fetch set what) refl h
  step_keeps (requests.Store set mode flags) h = step_so (KeepsMap s) s (map_lasts s) tag said new (requests.Store set mode flags) refl h
  step_keeps (requests.Expunge set) h = step_so (KeepsMap s) s (map_lasts s) tag said new (requests.Expunge set) refl h

does_keeps : (s : Server) (item : Item) (own : List Reply) (new : Server) → Does s item own new → KeepsMap s new
does_keeps s (Asks command) own new h = step_keeps s command.tag own new command.request h
does_keeps s (Faulty fault) own new h = ap (λ (t : Server). t.keywords) h.1
does_keeps s Ends own new h = ap (λ (t : Server). t.keywords) h.1
does_keeps s Late own new h = ap (λ (t : Server). t.keywords) h.1

quiet_keeps : (old new : Server) → Quiet old new → KeepsMap old new
quiet_keeps old new q = ap (λ (t : Server). t.keywords) q

takes_keeps : (old : Server) (p : Portion) (rs : List Reply) (new : Server) → Takes old p rs new → KeepsMap old new
takes_keeps old p rs new t = does_keeps (reported t.before) p.item t.own new t.does ∙ quiet_keeps old t.before t.quiet

serve_keeps : (old new : Server) (ps : List Portion) (rs : List Reply) → Serve old ps rs new → KeepsMap old new
serve_keeps old new [] rs s = quiet_keeps old new s.0
serve_keeps old new (p ∷ ps) rs s = serve_keeps s.2 new ps s.1 s.4 ∙ takes_keeps old p s.0 s.2 s.3

-- ---- what a link sends

-- others may have been there
still_unread : (v : Visitors) (line : Line) (mid : Server) → Visits v line.end.server mid → (unread : List ℕ) (said : List Reply) → IsUnread line.end unread said → IsUnread (visited line mid).end unread said
still_unread v line mid visits unread said is = subst (λ (c : Condition). Holds (is_over c) line.end.kept unread said) (sym visits.condition) is

maps_differ_once : IsSet (List Keyword)
maps_differ_once = hlevel props

module _ (v : Visitors) (old : Line) (bytes : List ℕ) (stands : ∥ Stands old ∥₁) where
  sent_keeps : (new : Line) → SendsThen v bytes old new → KeepsMap old.end.server new.end.server
  sent_keeps new a =
      ∥∥₁_elim stands (maps_differ_once _ _) (λ s.
      let fed = a.then.feeds.from s.unread s.said (still_unread v old a.mid a.visits s.unread s.said s.is) in
      serve_keeps a.mid new.end.server fed.runs.portions fed.replies fed.runs.served ∙ a.visits.keywords)

  sent_stands : (new : Line) → SendsThen v bytes old new → ∥ Stands new ∥₁
  sent_stands new a =
      ∥∥₁_map stands (λ s.
      let fed = a.then.feeds.from s.unread s.said (still_unread v old a.mid a.visits s.unread s.said s.is) in
      record { unread = fed.rest; said = fed.rest_said; is = fed.unread_then })

  some_keeps : (new : Server) → SomeThen v old bytes new → KeepsMap old.end.server new
  some_keeps new a =
      ∥∥₁_elim stands (maps_differ_once _ _) (λ s.
      let served = a.then.from s.unread s.said (still_unread v old a.mid a.visits s.unread s.said s.is) in
      serve_keeps a.mid new served.runs.portions served.replies served.runs.served ∙ a.visits.keywords)

  -- whatever the call answers, where the link is honest (`H`)
  module _ (H : Type 0) (new : Line) where
    pub sends_keep : (r : Result (Unit {0}) LinkFault) → OnOk r (H → SendsThen v bytes old new) → OnErr r (H → SomeThen v old bytes new.end.server) → H → KeepsMap old.end.server new.end.server
    sends_keep (Ok x) ok err h = sent_keeps new (ok h)
    sends_keep (Err e) ok err h = some_keeps new.end.server (err h)

    pub sends_stand : (r : Result (Unit {0}) LinkFault) → OnOk r (H → SendsThen v bytes old new) → is_ok r ≡ true → H → ∥ Stands new ∥₁
    sends_stand (Ok x) ok e h = sent_stands new (ok h)
    sends_stand (Err x) ok e h = cc

-- ---- what comes over it, and a new connection

module _ (old new : Line) where
  received_stands : (bytes : List ℕ) → Receives bytes old new → ∥ Stands old ∥₁ → ∥ Stands new ∥₁
  received_stands bytes r stands =
      ∥∥₁_map stands (λ s. record {
        unread = s.unread;
        said = s.said;
        is = subst (λ (k : Kept). Holds (is_over new.end.server.condition) k s.unread s.said) (sym r.stays.kept)
            (subst (λ (t : Server). Holds (is_over t.condition) old.end.kept s.unread s.said) (sym r.stays.quiet) s.is);
      })

  started_stands : Starts old new → ∥ Stands new ∥₁
  started_stands s =
      let stands : Stands new = record { unread = []; said = []; is = new_end_is_empty old.end.server new.end s.end } in
      ∣ stands ∣₁

  module _ (H : Type 0) where
    pub receives_keep : (piece : List ℕ) (r : Result ℕ LinkFault) → IfOk r (λ n. H → Receives (take n piece) old new) → OnErr r (H → Quiet old.end.server new.end.server) → H → KeepsMap old.end.server new.end.server
    receives_keep piece (Ok n) ok err h = quiet_keeps old.end.server new.end.server (ok h).stays.quiet
    receives_keep piece (Err e) ok err h = quiet_keeps old.end.server new.end.server (err h)

    pub receives_stand : (piece : List ℕ) (r : Result ℕ LinkFault) → IfOk r (λ n. H → Receives (take n piece) old new) → ∥ Stands old ∥₁ → is_ok r ≡ true → H → ∥ Stands new ∥₁
    receives_stand piece (Ok n) ok stands e h = received_stands (take n piece) (ok h) stands
    receives_stand piece (Err x) ok stands e h = cc

    pub restarts_keep : (r : Result (Unit {0}) LinkFault) → OnOk r (H → Starts old new) → OnErr r (H → Quiet old.end.server new.end.server) → H → KeepsMap old.end.server new.end.server
    restarts_keep (Ok x) ok err h = ap (λ (t : Server). t.keywords) (ok h).end.quiet
    restarts_keep (Err e) ok err h = quiet_keeps old.end.server new.end.server (err h)

    pub restarts_stand : (r : Result (Unit {0}) LinkFault) → OnOk r (H → Starts old new) → is_ok r ≡ true → H → ∥ Stands new ∥₁
    restarts_stand (Ok x) ok e h = started_stands (ok h)
    restarts_stand (Err x) ok e h = cc
