-- The same bytes are the same answer, and nothing follows it.
use Rattle.std.proofs.Common.{◌≡◌, inl, inr, ℕ, true, List, [], ◌∷◌, ◌++◌, codes, refl, sym, ◌∙◌, ap, subst, append_assoc, Some}
use Rattle.imap_replies.specs.declared.reply.Reply.{Reply}
use Rattle.imap_replies.specs.declared.reply.Reply.TheVariants.{Continue, Tagged, Notice, Capability, Enabled, List as Listed, Flags, Exists, Expunge, Fetch, Other, OtherNumbered}
use Rattle.imap_replies.specs.Replies.{ReplyText}
use Rattle.wire_reader.specs.Spelling.{crlf}
use Rattle.imap_session.specs.Heard.{tag_of, is_passed, IsAnswer, AreReplies}
use Rattle.imap_session.proofs.Apart.{apart, replies_apart}

-- ---- a spelling of a reply has bytes

pub plain_go : ReplyText (Continue []) (codes "+ " ++ crlf)
plain_go = record { front = codes "+ "; back = crlf; parts = refl; first = refl; second = (refl, refl) }

pub reply_some : (r : Reply) (text : List ℕ) → ReplyText r text → text ≡ [] → ⊥
reply_some r text h e =
    let none = replies_apart r (Continue []) text (codes "+ " ++ crlf) (codes "+ " ++ crlf) h plain_go (ap (λ (l : List ℕ). l ++ (codes "+ " ++ crlf)) e) in
    let bad = none.0 in cc

pub no_bytes : (heard : List Reply) (out : List ℕ) → heard ≡ [] → AreReplies heard out → out ≡ []
no_bytes heard out e a = subst (λ (rs : List Reply). AreReplies rs out) e a

empty_front : (a b : List ℕ) → a ++ b ≡ [] → a ≡ []
empty_front [] b e = refl
empty_front (x ∷ a) b e = cc

pub some_bytes : (tag : List ℕ) (rs : List Reply) (bytes rest : List ℕ) → IsAnswer tag rs → AreReplies rs bytes → bytes ++ rest ≡ [] → ⊥
some_bytes tag [] bytes rest h a e = h
some_bytes tag (r ∷ rs) bytes rest h a e = reply_some r a.front a.first (empty_front a.front a.back (sym a.parts ∙ empty_front bytes rest e))

-- ---- answers

-- a tagged reply is none that is passed
pub tagged_or_passed : (r : Reply) (t : List ℕ) → tag_of r ≡ Some t → is_passed r ≡ true → ⊥
tagged_or_passed (Tagged tag status text) t h k = cc
tagged_or_passed (Continue text) t h k = cc
tagged_or_passed (Notice kind text) t h k = cc
tagged_or_passed (Capability names) t h k = cc
tagged_or_passed (Enabled names) t h k = cc
tagged_or_passed (Listed attributes delimiter name) t h k = cc
tagged_or_passed (Flags flags) t h k = cc
tagged_or_passed (Exists n) t h k = cc
tagged_or_passed (Expunge n) t h k = cc
tagged_or_passed (Fetch n items) t h k = cc
tagged_or_passed (Other word text) t h k = cc
tagged_or_passed (OtherNumbered n event text) t h k = cc

module _ (t u : List ℕ) where
  both_apart : (r q : Reply) (rs qs : List Reply) (rest : List ℕ) → r ≡ q → IsAnswer t (r ∷ rs) → IsAnswer u (q ∷ qs) → (rs ≡ [] → qs ≡ [] → rest ≡ [])
      → (IsAnswer t rs → IsAnswer u qs → (rs ≡ qs) × (rest ≡ [])) → (r ∷ rs ≡ q ∷ qs) × (rest ≡ [])
  both_apart r q rs qs rest same (inl h) (inl k) last next = (ap (λ (s : Reply). s ∷ rs) same ∙ ap (λ (l : List Reply). q ∷ l) (h.1 ∙ sym k.1), last h.1 k.1)
  both_apart r q rs qs rest same (inl h) (inr k) last next = absurd (tagged_or_passed q t (ap tag_of (sym same) ∙ h.0) k.0)
  both_apart r q rs qs rest same (inr h) (inl k) last next = absurd (tagged_or_passed q u k.0 (ap is_passed (sym same) ∙ h.0))
  both_apart r q rs qs rest same (inr h) (inr k) last next =
      let tails = next h.1 k.1 in (ap (λ (s : Reply). s ∷ rs) same ∙ ap (λ (l : List Reply). q ∷ l) tails.0, tails.1)

  -- the same bytes are the same answer, and nothing follows it
  pub answer_apart : (rs qs : List Reply) (x y rest : List ℕ) → AreReplies rs x → AreReplies qs y → IsAnswer t rs → IsAnswer u qs → x ++ rest ≡ y → (rs ≡ qs) × (rest ≡ [])
  answer_apart [] qs x y rest a b h k e = absurd h
  answer_apart (r ∷ rs) [] x y rest a b h k e = absurd k
  answer_apart (r ∷ rs) (q ∷ qs) x y rest a b h k e =
      let bytes : a.front ++ (a.back ++ rest) ≡ b.front ++ b.back = sym (append_assoc a.front a.back rest) ∙ ap (λ (l : List ℕ). l ++ rest) (sym a.parts) ∙ e ∙ b.parts in
      let same = apart replies_apart r q a.front (a.back ++ rest) b.front b.back a.first b.first bytes in
      both_apart r q rs qs rest same.value h k
      (λ m n. let none : a.back ≡ [] = no_bytes rs a.back m a.others in ap (λ (l : List ℕ). l ++ rest) (sym none) ∙ same.rest ∙ no_bytes qs b.back n b.others)
      (λ m n. answer_apart rs qs a.back b.back rest a.others b.others m n same.rest)
