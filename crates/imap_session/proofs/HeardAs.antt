-- What is the same of a reply that was said and of one that was heard in its place.
use Rattle.std.proofs.Common.{◌≡◌, ℕ, List, [], ◌∷◌, refl, sym, ap, ◌∙◌, inl, inr}
use Rattle.std.specs.List.{fold}
use Rattle.mailcore.specs.declared.keywords.Keyword.{Keyword}
use Rattle.wire_tokens.specs.Names.{has_name, star}
use Rattle.imap_replies.specs.declared.fetch.FetchItem.{FetchItem}
use Rattle.imap_replies.specs.declared.word.Status.TheVariants as statuses
use Rattle.imap_replies.specs.declared.word.NoticeKind.{NoticeKind}
use Rattle.imap_replies.specs.declared.response.Code.TheVariants as codes_of
use Rattle.imap_replies.specs.declared.response.ResponseText.TheVariants.{Plain, Coded}
use Rattle.imap_replies.specs.declared.reply.Reply.{Reply}
use Rattle.imap_replies.specs.declared.reply.Reply.TheVariants.{Tagged, Notice, Flags, Fetch}
use Rattle.imap_session.specs.Heard.{AreSameFlags, AreSameItems, IsHeardAs, AreHeardAs}

-- what is read of replies reads the same of those that may differ
pub record ReadsSame {X : Type 0} (keywords : List Keyword) (read : Reply → X) : Type 0 where
  pub without_uid : (tag text : List ℕ) (validity uid : ℕ) → read (Tagged tag statuses.Ok (Plain text)) ≡ read (Tagged tag statuses.Ok (Coded (codes_of.AppendUid validity uid) text))
  pub flags : (heard said : List (List ℕ)) → AreSameFlags keywords heard said → read (Flags heard) ≡ read (Flags said)
  pub permanent : (kind : NoticeKind) (text : List ℕ) (heard said : List (List ℕ)) → AreSameFlags keywords heard said → has_name star heard ≡ has_name star said
      → read (Notice kind (Coded (codes_of.PermanentFlags heard) text)) ≡ read (Notice kind (Coded (codes_of.PermanentFlags said) text))
  pub message : (place : ℕ) (heard said : List FetchItem) → AreSameItems keywords heard said → read (Fetch place heard) ≡ read (Fetch place said)

pub reads_same : {X : Type 0} (keywords : List Keyword) (read : Reply → X) → ReadsSame keywords read → (heard said : Reply) → IsHeardAs keywords heard said → read heard ≡ read said
reads_same keywords read r heard said (inl same) = ap read same
reads_same keywords read r heard said (inr (inl w)) = ap read w.heard_is ∙ r.without_uid w.tag w.text w.validity w.uid ∙ sym (ap read w.said_is)
reads_same keywords read r heard said (inr (inr (inl f))) = ap read f.heard_is ∙ r.flags f.names f.names_said f.same ∙ sym (ap read f.said_is)
reads_same keywords read r heard said (inr (inr (inr (inl p)))) =
    ap read p.heard_is ∙ r.permanent p.kind p.text p.names p.names_said p.same p.star ∙ sym (ap read p.said_is)
reads_same keywords read r heard said (inr (inr (inr (inr m)))) = ap read m.heard_is ∙ r.message m.place m.list m.list_said m.same ∙ sym (ap read m.said_is)

-- what is gathered of replies, one after another
pub gathers_same : {X : Type 0} (keywords : List Keyword) (more : X → Reply → X) → ((x : X) → ReadsSame keywords (more x)) → (x : X) (heard said : List Reply)
    → AreHeardAs keywords heard said → fold more x heard ≡ fold more x said
gathers_same keywords more r x [] [] h = refl
gathers_same keywords more r x [] (s ∷ ss) h = absurd h
gathers_same keywords more r x (h' ∷ hs) [] h = absurd h
gathers_same keywords more r x (y ∷ hs) (s ∷ ss) h =
    ap (λ z. fold more z hs) (reads_same keywords (more x) (r x) y s h.0) ∙ gathers_same keywords more r (more x s) hs ss h.1

-- replies that were said are heard as they are
pub all_heard : (keywords : List Keyword) (said : List Reply) → AreHeardAs keywords said said
all_heard keywords [] = tt
all_heard keywords (s ∷ ss) = (inl refl, all_heard keywords ss)
