-- What the server did, once it had reported its news.
use Rattle.std.specs.Prelude.{filter}
use Rattle.std.proofs.Common.{◌≡◌, inl, inr, ℕ, Bool, true, false, List, [], ◌∷◌, ◌++◌, refl, sym, ◌∙◌, ap, subst, length, Option, None, Some, if◌then◌else◌}
use Rattle.mailcore.specs.declared.keywords.Keyword.{Keyword}
use Rattle.imap_commands.specs.declared.command.Command.{Command}
use Rattle.imap_replies.specs.declared.word.NoticeKind.{NoticeKind}
use Rattle.imap_replies.specs.declared.word.NoticeKind.TheVariants as notices
use Rattle.imap_replies.specs.declared.response.Code.TheVariants as codes_of
use Rattle.imap_replies.specs.declared.response.ResponseText.TheVariants.{Coded}
use Rattle.imap_replies.specs.declared.reply.Reply.{Reply}
use Rattle.imap_replies.specs.declared.reply.Reply.TheVariants.{Notice, Exists}
use Rattle.imap_session.specs.Mailboxes.{FarMailbox}
use Rattle.imap_session.specs.Servers.{Server, selected, exists_of, news, reported}
use Rattle.imap_session.specs.Steps.{Step}
use Rattle.imap_session.specs.Heard.{IsHeardAs, AreHeardAs}
use Rattle.imap_session.specs.Ends.{Did, DidSo, DidCommand, MayHave}
use Rattle.imap_session.proofs.HeardAs.{reads_same}
use Rattle.imap_session.proofs.Reporting.{step_keeps}
use Rattle.imap_link.specs.declared.uses.Uses.{Uses}
use Rattle.imap_link.specs.UsedReplies.{is_used}
use Rattle.imap_link.specs.Exchanges.{Performs, PerformsSo}

-- ---- the news is skipped

-- PERMANENTFLAGS is kept or not by the word before it alone
by_kind : (uses : Uses) (kind : NoticeKind) (heard said : List (List ℕ)) (text : List ℕ)
    → is_used uses (Notice kind (Coded (codes_of.PermanentFlags heard) text)) ≡ is_used uses (Notice kind (Coded (codes_of.PermanentFlags said) text))
by_kind uses notices.Ok heard said text = refl
by_kind uses notices.No heard said text = refl
by_kind uses notices.Bad heard said text = refl
by_kind uses notices.Bye heard said text = refl
by_kind uses notices.Preauth heard said text = refl

module _ (keywords : List Keyword) where
  -- a reply is kept as the one that was said in its place
  pub used_same : (uses : Uses) (heard said : Reply) → IsHeardAs keywords heard said → is_used uses heard ≡ is_used uses said
  used_same uses = reads_same keywords (is_used uses) (record {
    without_uid = λ tag text validity uid. refl;
    flags = λ heard said same. refl;
    permanent = λ kind text heard said same star. by_kind uses kind heard said text;
    message = λ place heard said same. refl;
  })

  -- those of the replies that answer the command
  record Own (heard own : List Reply) : Type 0 where
    replies : List Reply
    used : (uses : Uses) → filter (is_used uses) heard ≡ filter (is_used uses) replies
    heard_as : AreHeardAs keywords replies own

  after_exists : (m : Option FarMailbox) (heard own : List Reply) → AreHeardAs keywords heard (exists_of m ++ own) → Own heard own
  after_exists None heard own l = record { replies = heard; used = λ uses. refl; heard_as = l }
  after_exists (Some m) [] own l = absurd l
  after_exists (Some m) (h ∷ hs) own l = record {
    replies = hs;
    used = λ uses. ap (λ (b : Bool). if b then h ∷ filter (is_used uses) hs else filter (is_used uses) hs) (used_same uses h (Exists (length m.store.messages)) l.0);
    heard_as = l.1;
  }

  after_news : (b : Bool) (m : Option FarMailbox) (heard own : List Reply) → AreHeardAs keywords heard ((if b then exists_of m else []) ++ own) → Own heard own
  after_news true m heard own l = after_exists m heard own l
  after_news false m heard own l = record { replies = heard; used = λ uses. refl; heard_as = l }

-- ---- the command was done

is_reported : (s : Server) → s.has_news ≡ false → s ≡ reported s
is_reported s e = ap (λ (b : Bool). record s { has_news = b }) e

module _ (c : Command) (old new : Server) where
  performed : (said : List Reply) (d : Did c [] old said new) → Step (reported old) c d.own (reported new)
  performed said d =
      let here : Step (reported old) c d.own d.after = subst (λ (s : Server). Step (reported s) c d.own d.after) d.quiet d.step in
      let kept : d.after.has_news ≡ false = step_keeps (reported old) c.tag c.request d.own d.after here in
      subst (Step (reported old) c d.own) (is_reported d.after kept ∙ ap reported (sym d.later)) here

  pub may_perform : MayHave (DidCommand c) old new → MayHave (Performs c) (reported old) (reported new)
  may_perform (inl q) = inl (ap reported q)
  may_perform (inr d) = inr (record { said = d.did.own; step = performed d.said d.did })

  -- whatever a call keeps, of the replies that were heard it keeps those that it keeps of these
  pub record HasPerformed (heard : List Reply) : Type 0 where
    pub replies : List Reply
    pub used : (uses : Uses) → filter (is_used uses) heard ≡ filter (is_used uses) replies
    pub did : PerformsSo c replies (reported old) (reported new)

  pub has_performed : (heard : List Reply) → DidSo c heard old new → HasPerformed heard
  has_performed heard d =
      let said : d.said ≡ news old ++ d.did.own = d.did.replies_are ∙ ap (λ (s : Server). news s ++ d.did.own) d.did.quiet in
      let own = after_news old.keywords old.has_news (selected old) heard d.did.own (subst (AreHeardAs old.keywords heard) said d.heard_as) in
      record {
        replies = own.replies;
        used = own.used;
        did = record { said = d.did.own; step = performed d.said d.did; heard_as = own.heard_as };
      }
