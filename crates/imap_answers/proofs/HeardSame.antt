-- The replies that a server said, and those that were heard for them, report the same.
use Rattle.std.proofs.Common.{◌≡◌, ℕ, Bool, true, List, [], ◌∷◌, Some, refl, sym, ◌∙◌, ap, inl, inr, ◌⊎◌}
use Rattle.std.specs.Prelude.{if◌then◌else◌}
use Rattle.std.specs.List.{fold}
use Rattle.mailcore.specs.declared.keywords.Keyword.{Keyword}
use Rattle.mailcore.specs.KeywordNames.{named_set}
use Rattle.wire_tokens.specs.Names.{has_name, star}
use Rattle.imap_replies.specs.declared.fetch.FetchItem.{FetchItem}
use Rattle.imap_replies.specs.declared.fetch.FetchItem.TheVariants as items
use Rattle.imap_replies.specs.declared.word.NoticeKind.{NoticeKind}
use Rattle.imap_replies.specs.declared.word.NoticeKind.TheVariants as notices
use Rattle.imap_replies.specs.declared.response.Code.TheVariants as codes_of
use Rattle.imap_replies.specs.declared.response.ResponseText.TheVariants.{Coded}
use Rattle.imap_replies.specs.declared.reply.Reply.TheVariants.{Notice}
use Rattle.imap_session.specs.Heard.{AreSameFlags, AreSameItems, ShowsItem}
use Rattle.imap_session.proofs.HeardAs.{ReadsSame}
use Rattle.imap_answers.specs.declared.opening.Opening.{Opening}
use Rattle.imap_answers.specs.declared.reported.FetchReport.{FetchReport}
use Rattle.imap_answers.specs.declared.reported.Row.{Row}
use Rattle.imap_answers.specs.Fetching.{nothing_reported, rows_more, reported_more, reported_of, with_row}
use Rattle.imap_answers.specs.MailboxNames.{names_more}
use Rattle.imap_answers.specs.Openings.{opening_more, permits_all}

-- ---- the items of one message

module _ {A : Type 0} (keywords : List Keyword) (more : A → FetchItem → A)
    (flags : (a : A) (heard said : List (List ℕ)) → AreSameFlags keywords heard said → more a (items.Flags heard) ≡ more a (items.Flags said)) where
  item_same : (a : A) (h s : FetchItem) → (h ≡ s) ⊎ ShowsItem keywords h s → more a h ≡ more a s
  item_same a h s (inl e) = ap (more a) e
  item_same a h s (inr w) = ap (more a) w.heard_is ∙ flags a w.names w.names_said w.same ∙ sym (ap (more a) w.said_is)

  -- what is gathered of them one after another
  pub items_same : (a : A) (heard said : List FetchItem) → AreSameItems keywords heard said → fold more a heard ≡ fold more a said
  items_same a [] [] h = refl
  items_same a [] (s ∷ ss) h = absurd h
  items_same a (x ∷ hs) [] h = absurd h
  items_same a (x ∷ hs) (s ∷ ss) h = ap (λ (b : A). fold more b hs) (item_same a x s h.0) ∙ items_same (more a s) hs ss h.1

reported_same : (keywords : List Keyword) (heard said : List FetchItem) → AreSameItems keywords heard said → reported_of keywords heard ≡ reported_of keywords said
reported_same keywords = items_same keywords (reported_more keywords) (λ t heard said same. ap (λ (f : ℕ). record t { flags = Some f }) same) nothing_reported

-- ---- replies

pub rows_same : (keywords : List Keyword) (rows : List (ℕ × Row)) → ReadsSame keywords (rows_more keywords rows)
rows_same keywords rows = record {
  without_uid = λ tag text validity uid. refl;
  flags = λ heard said same. refl;
  permanent = λ kind text heard said same star. refl;
  message = λ place heard said same. ap (λ (t : FetchReport). with_row rows t.uid t) (reported_same keywords heard said same);
}

pub names_same : (keywords : List Keyword) (names : List (List ℕ)) → ReadsSame keywords (names_more names)
names_same keywords names = record {
  without_uid = λ tag text validity uid. refl;
  flags = λ heard said same. refl;
  permanent = λ kind text heard said same star. refl;
  message = λ place heard said same. refl;
}

-- PERMANENTFLAGS beside each kind of notice
permits_same : (keywords : List Keyword) (o : Opening) (kind : NoticeKind) (text : List ℕ) (heard said : List (List ℕ))
    → AreSameFlags keywords heard said → has_name star heard ≡ has_name star said
    → opening_more keywords o (Notice kind (Coded (codes_of.PermanentFlags heard) text)) ≡ opening_more keywords o (Notice kind (Coded (codes_of.PermanentFlags said) text))
permits_same keywords o notices.Ok text heard said same starred =
    ap (λ (flags : ℕ). if permits_all keywords flags (has_name star heard) then o else record o { is_read_only = true }) same
    ∙ ap (λ (others : Bool). if permits_all keywords (named_set keywords said) others then o else record o { is_read_only = true }) starred
permits_same keywords o notices.No text heard said same starred = refl
permits_same keywords o notices.Bad text heard said same starred = refl
permits_same keywords o notices.Bye text heard said same starred = refl
permits_same keywords o notices.Preauth text heard said same starred = refl

pub opening_same : (keywords : List Keyword) (o : Opening) → ReadsSame keywords (opening_more keywords o)
opening_same keywords o = record {
  without_uid = λ tag text validity uid. refl;
  flags = λ heard said same. refl;
  permanent = permits_same keywords o;
  message = λ place heard said same. refl;
}
