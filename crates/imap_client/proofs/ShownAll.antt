-- A search for a mark is shown the beginning of each message from where it asks on, so that it goes past all of them.
use Rattle.std.proofs.Common.{◌≡◌, ℕ, ◌+◌, ◌<◌, ◌≤◌, Bool, true, false, List, [], ◌∷◌, ◌++◌, refl, sym, ◌∙◌, ap, subst, take, get_or, inl, inr, Option, Some, None, arith}
use Rattle.std.specs.Prelude.{All, max, nat_le, nat_lt, ◌&&◌, ◌||◌, if◌then◌else◌}
use Rattle.std.specs.List.{Contains, fold}
use Rattle.std.proofs.lemmas.Bool.{and_from, and_parts, cases_Bool, cases_lt, le-leb, leb-true, ltb-false, or_cases, or_left, or_right, true≢false}
use Rattle.std.proofs.lemmas.List.Elements.{All-cons, All-nil, Contains-append_left, Contains-push}
use Rattle.mailcore.specs.declared.keywords.Keyword.{Keyword}
use Rattle.mailcore.specs.declared.mailbox.Message.{Message}
use Rattle.mailcore.specs.Content.{mark_of}
use Rattle.mailcore.specs.Passed.{IsOneOf}
use Rattle.wire_tokens.specs.Sets.{between, names}
use Rattle.imap_commands.specs.declared.command.FetchItems.TheVariants as wanted
use Rattle.imap_replies.specs.declared.reply.Reply.{Reply}
use Rattle.imap_replies.specs.declared.reply.Reply.TheVariants.{Fetch}
use Rattle.imap_session.specs.Mailboxes.{FarMailbox}
use Rattle.imap_session.specs.NamedMessages.{greatest, named_in}
use Rattle.imap_session.specs.Answering.{done}
use Rattle.imap_session.specs.MessageCommands.{shown as items_of, fetched}
use Rattle.imap_answers.specs.declared.marks.MarkSearch.{MarkSearch}
use Rattle.imap_answers.specs.Markings.{Sought}
use Rattle.imap_answers.specs.Showing.{Shown, greater, items_shown, nothing_shown, reach, shown_more, with_mark}
use Rattle.imap_client.specs.Calls.{from_on}
use Rattle.imap_client.proofs.Fetched.{replies_for}
use Rattle.imap_client.proofs.Marks.{mark_of_head}

module _ (keywords : List Keyword) (from : ℕ) (named : ℕ → Bool) (tag : List ℕ) where
  abbrev rest : (place : ℕ) → List Message → List Reply
  rest place ms = fetched keywords named wanted.Head place ms ++ done tag ∷ []

  abbrev rest_if : Bool → (place : ℕ) → Message → List Message → List Reply
  rest_if b place m ms = (if b then Fetch place (items_of keywords wanted.Head m) ∷ fetched keywords named wanted.Head (place + 1) ms else fetched keywords named wanted.Head (place + 1) ms) ++ done tag ∷ []

  abbrev after : Shown → List Reply → Shown
  after s rs = fold (shown_more from) s rs

  abbrev shows : Shown → Message → Shown
  shows s m = items_shown from s (items_of keywords wanted.Head m)

  -- ---- the marks

  contains_with : (marks : List (List ℕ)) (o : Option (List ℕ)) (mark : List ℕ) → Contains marks mark → Contains (with_mark marks o) mark
  contains_with marks None mark h = h
  contains_with marks (Some other) mark h = Contains-append_left marks (other ∷ []) mark h

  marks_stay_if : (b : Bool) (mark : List ℕ) (s : Shown) (place : ℕ) (m : Message) (ms : List Message) → ((t : Shown) → Contains t.marks mark → Contains (after t (rest (place + 1) ms)).marks mark) → Contains s.marks mark
      → Contains (after s (rest_if b place m ms)).marks mark
  marks_stay_if true mark s place m ms next h = next (shows s m) (contains_with s.marks (mark_of (take 22 m.bytes)) mark h)
  marks_stay_if false mark s place m ms next h = next s h

  marks_stay : (mark : List ℕ) (place : ℕ) (ms : List Message) (s : Shown) → Contains s.marks mark → Contains (after s (rest place ms)).marks mark
  marks_stay mark place [] s h = h
  marks_stay mark place (m ∷ ms) s h = marks_stay_if (named m.uid) mark s place m ms (marks_stay mark (place + 1) ms) h

  own_mark : (o : Option (List ℕ)) (s : Shown) (place : ℕ) (m : Message) (ms : List Message) → mark_of (take 22 m.bytes) ≡ o → IsOneOf (after (shows s m) (rest (place + 1) ms)).marks o
  own_mark None s place m ms e = tt
  own_mark (Some mark) s place m ms e =
      marks_stay mark (place + 1) ms (shows s m) (subst (λ (o : Option (List ℕ)). Contains (with_mark s.marks o) mark) (sym e) (Contains-push s.marks mark))

  marks_if : (b : Bool) (s : Shown) (place : ℕ) (m : Message) (ms : List Message) → named m.uid ≡ b
      → ((t : Shown) → All (λ x. named x.uid ≡ true → IsOneOf (after t (rest (place + 1) ms)).marks (mark_of x.bytes)) ms)
      → All (λ x. named x.uid ≡ true → IsOneOf (after s (rest_if b place m ms)).marks (mark_of x.bytes)) (m ∷ ms)
  marks_if true s place m ms e next =
      All-cons (λ x. named x.uid ≡ true → IsOneOf (after (shows s m) (rest (place + 1) ms)).marks (mark_of x.bytes)) m ms
      (λ _. own_mark (mark_of m.bytes) s place m ms (mark_of_head m.bytes)) (next (shows s m))
  marks_if false s place m ms e next =
      All-cons (λ x. named x.uid ≡ true → IsOneOf (after s (rest (place + 1) ms)).marks (mark_of x.bytes)) m ms
      (λ is. absurd (true≢false (sym is ∙ e))) (next s)

  marks_all : (place : ℕ) (ms : List Message) (s : Shown) → All (λ x. named x.uid ≡ true → IsOneOf (after s (rest place ms)).marks (mark_of x.bytes)) ms
  marks_all place [] s = All-nil (λ x. named x.uid ≡ true → IsOneOf (after s (rest place [])).marks (mark_of x.bytes))
  marks_all place (m ∷ ms) s = marks_if (named m.uid) s place m ms refl (marks_all (place + 1) ms)

  -- ---- the greatest UID

  -- it is named, and at least `from`
  abbrev IsTop : Option ℕ → Type 0
  IsTop o = (top : ℕ) → o ≡ Some top → (named top ≡ true) × (from ≤ top)

  same_some : (a b : ℕ) → (let x : Option ℕ = Some a in x) ≡ Some b → a ≡ b
  same_some a b e = cc

  none_some : (b : ℕ) → (let x : Option ℕ = None in x) ≡ Some b → ⊥
  none_some b e = cc

  top_one : (uid : ℕ) → named uid ≡ true → from ≤ uid → IsTop (Some uid)
  top_one uid is least top e = subst (λ (n : ℕ). (named n ≡ true) × (from ≤ n)) (same_some uid top e) (is, least)

  top_greater : (o : Option ℕ) (uid : ℕ) → named uid ≡ true → from ≤ uid → IsTop o → IsTop (greater o (Some uid))
  top_greater None uid is least h = top_one uid is least
  top_greater (Some a) uid is least h = elim (cases_lt a uid) [
    | inl less ↦ subst (λ (n : ℕ). IsTop (Some n)) (let e : uid ≡ max a uid = omega (arith, less) in e) (top_one uid is least)
    | inr more ↦ subst (λ (n : ℕ). IsTop (Some n)) (let e : a ≡ max a uid = omega (arith, more) in e) h
  ]

  top_same : (o : Option ℕ) → IsTop o → IsTop (greater o None)
  top_same None h = h
  top_same (Some a) h = h

  top_if : (t : Bool) (o : Option ℕ) (uid : ℕ) → nat_le from uid ≡ t → named uid ≡ true → IsTop o → IsTop (greater o (if t && (false || (true || false)) then Some uid else None))
  top_if true o uid e is h = top_greater o uid is (leb-true from uid e) h
  top_if false o uid e is h = top_same o h

  tops_if : (b : Bool) (s : Shown) (place : ℕ) (m : Message) (ms : List Message) → named m.uid ≡ b → ((t : Shown) → IsTop t.top → IsTop (after t (rest (place + 1) ms)).top) → IsTop s.top
      → IsTop (after s (rest_if b place m ms)).top
  tops_if true s place m ms e next h = next (shows s m) (top_if (nat_le from m.uid) s.top m.uid refl e h)
  tops_if false s place m ms e next h = next s h

  tops : (place : ℕ) (ms : List Message) (s : Shown) → IsTop s.top → IsTop (after s (rest place ms)).top
  tops place [] s h = h
  tops place (m ∷ ms) s h = tops_if (named m.uid) s place m ms refl (tops (place + 1) ms) h

-- ---- `from:*` names what is between `from` and what it names

in_between : (a b top uid : ℕ) → between a b top ≡ true → a ≤ top → a ≤ uid → uid ≤ top → between a b uid ≡ true
in_between a b top uid h low least most =
    elim (or_cases (nat_le a top && nat_le top b) (nat_le b top && nat_le top a) h) [
      | inl up ↦
          let high = leb-true top b (and_parts (nat_le a top) (nat_le top b) up).1 in
          or_left _ _ (and_from _ _ (le-leb a uid least) (le-leb uid b (omega (arith, high, most))))
      | inr down ↦
          let both = and_parts (nat_le b top) (nat_le top a) down in
          let under = leb-true b top both.0 in
          let over = leb-true top a both.1 in
          or_right _ _ (and_from _ _ (le-leb b uid (omega (arith, under, least, low, over))) (le-leb uid a (omega (arith, most, over))))
    ]

named_between : (g : Option ℕ) (from top uid : ℕ) → 0 < from → names g (from_on from) top ≡ true → from ≤ top → from ≤ uid → uid ≤ top → names g (from_on from) uid ≡ true
named_between None from top uid some h low least most = absurd (true≢false (sym h))
named_between (Some g) from top uid some h low least most = elim (or_cases (between (max from 1) g top) false h) [
  | inl is ↦ or_left _ _ (in_between (max from 1) g top uid is (omega (arith, low, some)) (omega (arith, least, some)) most)
  | inr wrong ↦ absurd (true≢false (sym wrong))
]

under_reach : (uid top next : ℕ) → uid < reach next (Some top) → uid ≤ top
under_reach uid top next h = elim (cases_Bool (nat_lt top next)) [
  | inl less ↦ let low : uid < top + 1 = subst (λ (b : Bool). uid < (if b then top + 1 else next)) less h in omega (arith, low)
  | inr least ↦ let low : uid < next = subst (λ (b : Bool). uid < (if b then top + 1 else next)) least h in let most = ltb-false top next least in omega (arith, low, most)
]

module _ (keywords : List Keyword) (from next : ℕ) (m : FarMailbox) (tag : List ℕ) (some : 0 < from) where
  abbrev named : ℕ → Bool
  named uid = named_in m.store (from_on from) uid

  abbrev all_shown : Shown
  all_shown = fold (shown_more from) nothing_shown (replies_for keywords m (from_on from) wanted.Head tag)

  shown_by : (top : Option ℕ) → all_shown.top ≡ top → All (λ x. from ≤ x.uid → x.uid < reach next top → IsOneOf all_shown.marks (mark_of x.bytes)) m.store.messages
  shown_by None e k d within least below = absurd (omega (arith, below))
  shown_by (Some top) e k d within least below =
      let uid : ℕ = (get_or m.store.messages k d).uid in
      let is = tops keywords from named tag 1 m.store.messages nothing_shown (λ t f. absurd (none_some keywords from named tag t f)) top e in
      marks_all keywords from named tag 1 m.store.messages nothing_shown k d within (named_between (greatest m.store.messages) from top uid some is.0 is.1 least (under_reach uid top next below))

  -- the marks of all messages that a search went past are those that were shown
  pub shows_passed : (mark : List ℕ) (search : MarkSearch) → Sought mark from (replies_for keywords m (from_on from) wanted.Head tag) search
      → All (λ x. from ≤ x.uid → x.uid < reach next search.shown.top → IsOneOf search.shown.marks (mark_of x.bytes)) m.store.messages
  shows_passed mark search took =
      subst (λ (s : Shown). All (λ x. from ≤ x.uid → x.uid < reach next s.top → IsOneOf s.marks (mark_of x.bytes)) m.store.messages) (sym (ap (λ (s : MarkSearch). s.shown) took)) (shown_by all_shown.top refl)
