-- Where an answer comes, nothing else stands.
use Rattle.std.proofs.Common.{◌≡◌, ◌⊎◌, inl, inr, ℕ, Bool, true, List, [], ◌∷◌, ◌++◌, codes, refl, sym, ◌∙◌, ap, subst, arith, append_assoc, append-nil, Some}
use Rattle.wire_reader.specs.Spelling.{crlf}
use Rattle.imap_replies.specs.declared.word.Status.{Status}
use Rattle.imap_replies.specs.declared.reply.Reply.{Reply}
use Rattle.imap_replies.specs.declared.reply.Reply.TheVariants.{Continue}
use Rattle.imap_session.specs.Heard.{tag_of, is_passed, IsAnswer, AreUntagged, AreReplies}
use Rattle.imap_session.proofs.Apart.{apart, replies_apart}
use Rattle.imap_session.proofs.AnswersApart.{plain_go, reply_some}
use Rattle.imap_session.specs.Ends.{Ends}
use Rattle.imap_link.specs.Fronts.{Spells, IsFaulty}
use Rattle.imap_link.specs.declared.uses.Uses.{Uses}
use Rattle.imap_link.specs.declared.kind.ReplyKind.{ReplyKind}
use Rattle.imap_link.specs.declared.kind.ReplyKind.TheVariants.{Stray}
use Rattle.imap_link.specs.ReplyKinds.{kind_of, passes, IsAwaited}
use Rattle.imap_link.specs.Buffers.{Reads, Expects, IsAnswerText, Passed, GoesOn}
use Rattle.imap_link.proofs.KindLemmas.{passes_is, awaited_stays, tagged_awaited, mine_tagged}

-- ---- the same bytes end in the same reply

module _ (r q : Reply) (r_stays : is_passed r ≡ true → ⊥) (q_stays : is_passed q ≡ true → ⊥) where
  pub ends_apart : (ps qs : List Reply) (x y z : List ℕ) → AreUntagged ps → AreUntagged qs → AreReplies (ps ++ r ∷ []) x → AreReplies (qs ++ q ∷ []) y → x ++ z ≡ y
      → (ps ≡ qs) × (r ≡ q) × (z ≡ [])
  ends_apart [] [] x y z u v a b e =
      let bytes : a.front ++ (a.back ++ z) ≡ b.front ++ b.back = sym (append_assoc a.front a.back z) ∙ ap (λ (l : List ℕ). l ++ z) (sym a.parts) ∙ e ∙ b.parts in
      let same = apart replies_apart r q a.front (a.back ++ z) b.front b.back a.first b.first bytes in
      (refl, same.value, ap (λ (l : List ℕ). l ++ z) (sym a.others) ∙ same.rest ∙ b.others)
  ends_apart [] (t ∷ qs) x y z u v a b e =
      let bytes : a.front ++ (a.back ++ z) ≡ b.front ++ b.back = sym (append_assoc a.front a.back z) ∙ ap (λ (l : List ℕ). l ++ z) (sym a.parts) ∙ e ∙ b.parts in
      let same = apart replies_apart r t a.front (a.back ++ z) b.front b.back a.first b.first bytes in
      absurd (r_stays (ap is_passed same.value ∙ v.0))
  ends_apart (s ∷ ps) [] x y z u v a b e =
      let bytes : a.front ++ (a.back ++ z) ≡ b.front ++ b.back = sym (append_assoc a.front a.back z) ∙ ap (λ (l : List ℕ). l ++ z) (sym a.parts) ∙ e ∙ b.parts in
      let same = apart replies_apart s q a.front (a.back ++ z) b.front b.back a.first b.first bytes in
      absurd (q_stays (ap is_passed (sym same.value) ∙ u.0))
  ends_apart (s ∷ ps) (t ∷ qs) x y z u v a b e =
      let bytes : a.front ++ (a.back ++ z) ≡ b.front ++ b.back = sym (append_assoc a.front a.back z) ∙ ap (λ (l : List ℕ). l ++ z) (sym a.parts) ∙ e ∙ b.parts in
      let same = apart replies_apart s t a.front (a.back ++ z) b.front b.back a.first b.first bytes in
      let rest = ends_apart ps qs a.back b.back z u.1 v.1 a.others b.others same.rest in
      (ap (λ (f : Reply). f ∷ ps) same.value ∙ ap (λ (l : List Reply). t ∷ l) rest.0, rest.1, rest.2)

-- ---- an answer

answer-more : (t : List ℕ) (rs : List Reply) (r : Reply) → AreUntagged rs → tag_of r ≡ Some t → IsAnswer t (rs ++ r ∷ [])
answer-more t [] r h e = inl (e, refl)
answer-more t (q ∷ rs) r h e = inr (h.0, answer-more t rs r h.1 e)

pub answer_of : (tag bytes : List ℕ) (status : Status) (h : IsAnswerText tag status bytes) → IsAnswer tag (h.passed ++ h.last ∷ [])
answer_of tag bytes status h = answer-more tag h.passed h.last h.untagged (mine_tagged tag h.last status h.is)

-- replies that are an answer end in what is waited for
pub record Closed (tag : List ℕ) (rs : List Reply) : Type 0 where
  pub passed : List Reply
  pub untagged : AreUntagged passed
  pub last : Reply
  pub is : tag_of last ≡ Some tag
  pub all : rs ≡ passed ++ last ∷ []

pub closed_of : (tag : List ℕ) (rs : List Reply) → IsAnswer tag rs → Closed tag rs
closed_of tag [] h = absurd h
closed_of tag (r ∷ rs) (inl h) = record { passed = []; untagged = tt; last = r; is = h.0; all = ap (λ (l : List Reply). r ∷ l) h.1 }
closed_of tag (r ∷ rs) (inr h) =
    let c = closed_of tag rs h.1 in
    record { passed = r ∷ c.passed; untagged = (h.0, c.untagged); last = c.last; is = c.is; all = ap (λ (l : List Reply). r ∷ l) c.all }

pub expects_answer : (tag : List ℕ) (rs : List Reply) (bytes : List ℕ) → IsAnswer tag rs → AreReplies rs bytes → Expects tag bytes
expects_answer tag rs bytes h a =
    let c = closed_of tag rs h in
    inr (record { passed = c.passed; untagged = c.untagged; last = c.last; is = tagged_awaited tag c.last c.is; spelled = subst (λ (l : List Reply). AreReplies l bytes) c.all a })

-- ---- no other reply stands where an answer comes

pub record Strays (tag bytes : List ℕ) : Type 0 where
  pub reply : Reply
  pub front : List ℕ
  pub back : List ℕ
  pub parts : bytes ≡ front ++ back
  pub spells : Spells reply front
  pub is : kind_of tag reply ≡ Stray

abbrev pub Astray : List ℕ → List ℕ → Type 0
Astray tag bytes = Strays tag bytes ⊎ IsFaulty bytes

abbrev Last : List ℕ → Reply → Type 0
Last tag r = IsAwaited (kind_of tag r)

stray_stays : (k : ReplyKind) → k ≡ Stray → (passes k ≡ true → ⊥) × (IsAwaited k → ⊥)
stray_stays k e = (λ p. let q : passes Stray ≡ true = ap passes (sym e) ∙ p in cc, λ a. subst IsAwaited e a)

first_astray : (tag : List ℕ) (ps : List Reply) (last : Reply) (d : List ℕ) → AreUntagged ps → Last tag last → AreReplies (ps ++ last ∷ []) d → Astray tag d → ⊥
first_astray tag [] last d u is a (inr f) = f last a.front a.back [] a.first a.fits (append-nil d ∙ a.parts)
first_astray tag (q ∷ ps) last d u is a (inr f) = f q a.front a.back [] a.first a.fits (append-nil d ∙ a.parts)
first_astray tag [] last d u is a (inl b) =
    let same = apart replies_apart b.reply last b.front b.back a.front a.back b.spells.spelled a.first (sym b.parts ∙ a.parts) in
    (stray_stays (kind_of tag last) (ap (kind_of tag) (sym same.value) ∙ b.is)).1 is
first_astray tag (q ∷ ps) last d u is a (inl b) =
    let same = apart replies_apart b.reply q b.front b.back a.front a.back b.spells.spelled a.first (sym b.parts ∙ a.parts) in
    (stray_stays (kind_of tag q) (ap (kind_of tag) (sym same.value) ∙ b.is)).0 (sym (passes_is tag q) ∙ u.0)

walk : (tag : List ℕ) (us ps : List Reply) (last : Reply) (x z y : List ℕ) → AreUntagged us → AreReplies us x → AreUntagged ps → Last tag last → AreReplies (ps ++ last ∷ []) y → x ++ z ≡ y → Astray tag z → ⊥
walk tag [] ps last x z y u a v is b e s =
    first_astray tag ps last z v is (subst (AreReplies (ps ++ last ∷ [])) (sym e ∙ ap (λ (l : List ℕ). l ++ z) a) b) s
walk tag (r ∷ us) [] last x z y u a v is b e s =
    let bytes : a.front ++ (a.back ++ z) ≡ b.front ++ b.back = sym (append_assoc a.front a.back z) ∙ ap (λ (l : List ℕ). l ++ z) (sym a.parts) ∙ e ∙ b.parts in
    let same = apart replies_apart r last a.front (a.back ++ z) b.front b.back a.first b.first bytes in
    awaited_stays tag last is (ap is_passed (sym same.value) ∙ u.0)
walk tag (r ∷ us) (q ∷ ps) last x z y u a v is b e s =
    let bytes : a.front ++ (a.back ++ z) ≡ b.front ++ b.back = sym (append_assoc a.front a.back z) ∙ ap (λ (l : List ℕ). l ++ z) (sym a.parts) ∙ e ∙ b.parts in
    let same = apart replies_apart r q a.front (a.back ++ z) b.front b.back a.first b.first bytes in
    walk tag us ps last a.back z b.back u.1 a.others v.1 is b.others same.rest s

front_none : (a b : List ℕ) → a ++ b ≡ [] → a ≡ []
front_none [] b e = refl
front_none (x ∷ a) b e = cc

nothing_astray : (tag d : List ℕ) → d ≡ [] → Astray tag d → ⊥
nothing_astray tag d e (inl b) = reply_some b.reply b.front b.spells.spelled (front_none b.front b.back (sym b.parts ∙ e))
nothing_astray tag d e (inr f) = f (Continue []) (codes "+ " ++ crlf) [] (codes "+ " ++ crlf) plain_go (omega arith) (ap (λ (l : List ℕ). l ++ (codes "+ " ++ crlf)) e ∙ sym (append-nil (codes "+ " ++ crlf)))

back_none : (a b : List ℕ) → a ++ b ≡ [] → b ≡ []
back_none [] b e = e
back_none (x ∷ a) b e = cc

-- after replies that are skipped
pub none_astray : (tag text rest coming : List ℕ) (us : List Reply) → AreUntagged us → AreReplies us text → coming ≡ text ++ rest → Expects tag coming → Astray tag rest → ⊥
none_astray tag text rest coming us u a e (inl none) s = nothing_astray tag rest (back_none text rest (sym e ∙ none)) s
none_astray tag text rest coming us u a e (inr x) s = walk tag us x.passed x.last text rest coming u a x.untagged x.is x.spelled (sym e) s

pub never_astray : (tag : List ℕ) (uses : Uses) (T : List Reply → Type 0) (kept : List ℕ) (first now : Ends) (honest : Type 0) → Passed uses T kept (λ text. honest → GoesOn first now text)
    → honest → Expects tag first.coming → Astray tag now.coming → ⊥
never_astray tag uses T kept first now honest p h expects s = none_astray tag p.text now.coming first.coming p.replies p.untagged p.spelled (p.goes h).coming expects s

-- a stray reply was heard there
pub strays : (tag : List ℕ) (uses : Uses) (kind : ReplyKind) (used : Bool) (len : ℕ) (R : Reply → Type 0) (honest : Type 0) (old new : Ends) (before now : List ℕ)
    → Reads uses tag kind used len R (λ text. honest → GoesOn old new text) before now → kind ≡ Stray → honest → Astray tag old.coming
strays tag uses kind used len R honest old new before now b e h =
    inl (record { reply = b.whole.reply; front = b.whole.text; back = new.coming; parts = (b.whole.goes h).coming; spells = b.whole.spells; is = b.is ∙ e })
