-- UIDNEXT and UIDVALIDITY are reported the same, whatever the map by which flags are read.
use Rattle.std.proofs.Common.{◌≡◌, Bool, true, false, List, [], ◌∷◌, refl}
use Rattle.std.specs.Prelude.{if◌then◌else◌}
use Rattle.std.specs.List.{fold}
use Rattle.mailcore.specs.declared.keywords.Keyword.{Keyword}
use Rattle.mailcore.specs.KeywordNames.{named_set}
use Rattle.wire_tokens.specs.Names.{has_name, star}
use Rattle.imap_replies.specs.declared.word.NoticeKind.TheVariants as notices
use Rattle.imap_replies.specs.declared.response.Code.{Code}
use Rattle.imap_replies.specs.declared.response.Code.TheVariants as codes_of
use Rattle.imap_replies.specs.declared.response.ResponseText.{ResponseText}
use Rattle.imap_replies.specs.declared.response.ResponseText.TheVariants.{Plain, Coded}
use Rattle.imap_replies.specs.declared.reply.Reply.{Reply}
use Rattle.imap_replies.specs.declared.reply.Reply.TheVariants.{Continue, Tagged, Notice, Capability, Enabled, List as Listed, Flags, Exists, Expunge, Fetch, Other, OtherNumbered}
use Rattle.imap_answers.specs.declared.opening.Opening.{Opening}
use Rattle.imap_answers.specs.Openings.{code_more, opening_more, permits_all, text_more}

abbrev pub AreSame : Opening → Opening → Type 0
AreSame a b = (a.next ≡ b.next) × (a.validity ≡ b.validity)

by_flags : (p q : Bool) (a b : Opening) → AreSame a b → AreSame (if p then a else record a { is_read_only = true }) (if q then b else record b { is_read_only = true })
by_flags true true a b h = h
by_flags true false a b h = h
by_flags false true a b h = h
by_flags false false a b h = h

module _ (k l : List Keyword) where
  code_same : (c : Code) (a b : Opening) → AreSame a b → AreSame (code_more k a c) (code_more l b c)
  code_same (codes_of.UidNext n) a b h = (refl, h.1)
  code_same (codes_of.UidValidity n) a b h = (h.0, refl)
  code_same (codes_of.PermanentFlags names) a b h = by_flags (permits_all k (named_set k names) (has_name star names)) (permits_all l (named_set l names) (has_name star names)) a b h
  code_same (codes_of.AppendUid validity uid) a b h = h
  code_same codes_of.ReadOnly a b h = h
  code_same codes_of.ReadWrite a b h = h
  code_same (codes_of.Other word text) a b h = h

  text_same : (t : ResponseText) (a b : Opening) → AreSame a b → AreSame (text_more k a t) (text_more l b t)
  text_same (Plain text) a b h = h
  text_same (Coded code text) a b h = code_same code a b h

  reply_same : (r : Reply) (a b : Opening) → AreSame a b → AreSame (opening_more k a r) (opening_more l b r)
  reply_same (Tagged tag status text) a b h = text_same text a b h
  reply_same (Notice notices.Ok text) a b h = text_same text a b h
  reply_same (Notice notices.No text) a b h = h
  reply_same (Notice notices.Bad text) a b h = h
  reply_same (Notice notices.Bye text) a b h = h
  reply_same (Notice notices.Preauth text) a b h = h
  reply_same (Continue text) a b h = h
  reply_same (Capability names) a b h = h
  reply_same (Enabled names) a b h = h
  reply_same (Listed attributes delimiter name) a b h = h
  reply_same (Flags flags) a b h = h
  reply_same (Exists n) a b h = h
  reply_same (Expunge n) a b h = h
  reply_same (Fetch n items) a b h = h
  reply_same (Other word text) a b h = h
  reply_same (OtherNumbered n event text) a b h = h

  pub numbers_same : (rs : List Reply) (a b : Opening) → AreSame a b → AreSame (fold (opening_more k) a rs) (fold (opening_more l) b rs)
  numbers_same [] a b h = h
  numbers_same (r ∷ rs) a b h = numbers_same rs (opening_more k a r) (opening_more l b r) (reply_same r a b h)
