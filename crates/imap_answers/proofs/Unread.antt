-- Replies that a call does not read change nothing: its answer is the same without them.
use Rattle.std.proofs.Common.{◌≡◌, Bool, true, false, List, [], ◌∷◌, ℕ, refl, sym, ◌∙◌, ap, Option, None}
use Rattle.std.specs.Prelude.{filter, if◌then◌else◌}
use Rattle.std.specs.List.{fold}
use Rattle.mailcore.specs.declared.keywords.Keyword.{Keyword}
use Rattle.imap_replies.specs.declared.word.NoticeKind.TheVariants as notices
use Rattle.imap_replies.specs.declared.response.Code.TheVariants as codes_of
use Rattle.imap_replies.specs.declared.response.ResponseText.TheVariants.{Plain, Coded}
use Rattle.imap_replies.specs.declared.reply.Reply.{Reply}
use Rattle.imap_replies.specs.declared.reply.Reply.TheVariants.{Continue, Tagged, Notice, Capability, Enabled, List as Listed, Flags, Exists, Expunge, Fetch, Other, OtherNumbered}
use Rattle.imap_link.specs.UsedReplies.{answer_alone, names_read, opening_read, is_used}
use Rattle.imap_answers.specs.declared.given.Given.{Given}
use Rattle.imap_answers.specs.declared.opening.Opening.{Opening}
use Rattle.imap_answers.specs.Given.{given_more, given_in}
use Rattle.imap_answers.specs.MailboxNames.{names_more, names_in}
use Rattle.imap_answers.specs.Openings.{opening_more, opening_of, nothing_reported}

module _ {A : Type 0} (more : A → Reply → A) (read : Reply → Bool) (idle : (reported : A) (r : Reply) → read r ≡ false → more reported r ≡ reported) where
  read_by : (b : Bool) (reported : A) (r : Reply) (rs : List Reply) → read r ≡ b → ((x : A) → fold more x (filter read rs) ≡ fold more x rs)
      → fold more reported (if b then r ∷ filter read rs else filter read rs) ≡ fold more reported (r ∷ rs)
  read_by true reported r rs e h = h (more reported r)
  read_by false reported r rs e h = h reported ∙ sym (ap (λ (x : A). fold more x rs) (idle reported r e))

  fold_read : (reported : A) (rs : List Reply) → fold more reported (filter read rs) ≡ fold more reported rs
  fold_read reported [] = refl
  fold_read reported (r ∷ rs) = read_by (read r) reported r rs refl (λ x. fold_read x rs)

-- ---- names of mailboxes

names_idle : (names : List (List ℕ)) (r : Reply) → is_used names_read r ≡ false → names_more names r ≡ names
names_idle names (Listed attributes delimiter name) e = cc
names_idle names (Continue text) e = refl
names_idle names (Tagged tag status text) e = refl
names_idle names (Notice kind text) e = refl
names_idle names (Capability abilities) e = refl
names_idle names (Enabled abilities) e = refl
names_idle names (Flags flags) e = refl
names_idle names (Exists n) e = refl
names_idle names (Expunge n) e = refl
names_idle names (Fetch n items) e = refl
names_idle names (Other word text) e = refl
names_idle names (OtherNumbered n event text) e = refl

pub names_in_read : (rs : List Reply) → names_in (filter (is_used names_read) rs) ≡ names_in rs
names_in_read rs = fold_read names_more (is_used names_read) names_idle [] rs

-- ---- the mailbox that is selected

opening_idle : (keywords : List Keyword) (o : Opening) (r : Reply) → is_used opening_read r ≡ false → opening_more keywords o r ≡ o
opening_idle keywords o (Tagged tag status text) e = cc
opening_idle keywords o (Notice notices.Ok (Plain text)) e = refl
opening_idle keywords o (Notice notices.Ok (Coded (codes_of.UidNext n) text)) e = cc
opening_idle keywords o (Notice notices.Ok (Coded (codes_of.UidValidity n) text)) e = cc
opening_idle keywords o (Notice notices.Ok (Coded (codes_of.PermanentFlags names) text)) e = cc
opening_idle keywords o (Notice notices.Ok (Coded (codes_of.AppendUid validity uid) text)) e = refl
opening_idle keywords o (Notice notices.Ok (Coded codes_of.ReadOnly text)) e = cc
opening_idle keywords o (Notice notices.Ok (Coded codes_of.ReadWrite text)) e = refl
opening_idle keywords o (Notice notices.Ok (Coded (codes_of.Other word more) text)) e = refl
opening_idle keywords o (Notice notices.No text) e = refl
opening_idle keywords o (Notice notices.Bad text) e = refl
opening_idle keywords o (Notice notices.Bye text) e = refl
opening_idle keywords o (Notice notices.Preauth text) e = refl
opening_idle keywords o (Continue text) e = refl
opening_idle keywords o (Capability abilities) e = refl
opening_idle keywords o (Enabled abilities) e = refl
opening_idle keywords o (Listed attributes delimiter name) e = refl
opening_idle keywords o (Flags flags) e = refl
opening_idle keywords o (Exists n) e = refl
opening_idle keywords o (Expunge n) e = refl
opening_idle keywords o (Fetch n items) e = refl
opening_idle keywords o (Other word text) e = refl
opening_idle keywords o (OtherNumbered n event text) e = refl

pub opening_of_read : (keywords : List Keyword) (rs : List Reply) → opening_of keywords (filter (is_used opening_read) rs) ≡ opening_of keywords rs
opening_of_read keywords rs = fold_read (opening_more keywords) (is_used opening_read) (opening_idle keywords) nothing_reported rs

-- ---- a message that was added

given_idle : (given : Option Given) (r : Reply) → is_used answer_alone r ≡ false → given_more given r ≡ given
given_idle given (Tagged tag status text) e = cc
given_idle given (Continue text) e = refl
given_idle given (Notice kind text) e = refl
given_idle given (Capability abilities) e = refl
given_idle given (Enabled abilities) e = refl
given_idle given (Listed attributes delimiter name) e = refl
given_idle given (Flags flags) e = refl
given_idle given (Exists n) e = refl
given_idle given (Expunge n) e = refl
given_idle given (Fetch n items) e = refl
given_idle given (Other word text) e = refl
given_idle given (OtherNumbered n event text) e = refl

pub given_in_read : (rs : List Reply) → given_in (filter (is_used answer_alone) rs) ≡ given_in rs
given_in_read rs = fold_read given_more (is_used answer_alone) given_idle None rs
