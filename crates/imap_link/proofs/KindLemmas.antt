-- The kinds of replies, and what the session's definitions say of them.
use Rattle.std.proofs.Common.{◌≡◌, ℕ, Bool, true, false, List, refl, sym, ◌∙◌, ap, subst, Some}
use Rattle.std.specs.Prelude.{nat_eq, if◌then◌else◌}
use Rattle.std.specs.Cmp.Lexicographic.{pointwise, same_text, other_text}
use Rattle.imap_replies.specs.declared.word.Status.{Status}
use Rattle.imap_replies.specs.declared.word.NoticeKind.TheVariants as notices
use Rattle.imap_replies.specs.declared.reply.Reply.{Reply}
use Rattle.imap_replies.specs.declared.reply.Reply.TheVariants.{Continue, Tagged, Notice, Capability, Enabled, List as Listed, Flags, Exists, Expunge, Fetch, Other, OtherNumbered}
use Rattle.imap_session.specs.Heard.{tag_of, is_passed}
use Rattle.imap_link.specs.declared.kind.ReplyKind.{ReplyKind}
use Rattle.imap_link.specs.declared.kind.ReplyKind.TheVariants.{Hello, Bye, Passed, Go, Mine, Stray}
use Rattle.imap_link.specs.ReplyKinds.{kind_of, passes, IsAwaited}

pub passes_is : (tag : List ℕ) (r : Reply) → is_passed r ≡ passes (kind_of tag r)
passes_is tag (Continue text) = refl
passes_is tag (Tagged other status text) =
    elim (pointwise nat_eq other tag) as (λ b. false ≡ passes (if b then Mine status else Stray)) [ true ↦ refl | false ↦ refl ]
passes_is tag (Notice notices.Ok text) = refl
passes_is tag (Notice notices.No text) = refl
passes_is tag (Notice notices.Bad text) = refl
passes_is tag (Notice notices.Bye text) = refl
passes_is tag (Notice notices.Preauth text) = refl
passes_is tag (Capability names) = refl
passes_is tag (Enabled names) = refl
passes_is tag (Listed attributes delimiter name) = refl
passes_is tag (Flags flags) = refl
passes_is tag (Exists n) = refl
passes_is tag (Expunge n) = refl
passes_is tag (Fetch n items) = refl
passes_is tag (Other word text) = refl
passes_is tag (OtherNumbered n event text) = refl

awaited_not : (k : ReplyKind) → IsAwaited k → passes k ≡ true → ⊥
awaited_not Hello a p = a
awaited_not Bye a p = a
awaited_not Passed a p = a
awaited_not Go a p = cc
awaited_not (Mine status) a p = cc
awaited_not Stray a p = a

-- what is waited for is not skipped
pub awaited_stays : (tag : List ℕ) (r : Reply) → IsAwaited (kind_of tag r) → is_passed r ≡ true → ⊥
awaited_stays tag r a p = awaited_not (kind_of tag r) a (sym (passes_is tag r) ∙ p)

same_is : (xs : List ℕ) → pointwise nat_eq xs xs ≡ true
same_is xs = elim (pointwise nat_eq xs xs) as (λ b. (b ≡ pointwise nat_eq xs xs → b ≡ true)) [ true ↦ (λ e. refl) | false ↦ (λ e. absurd (other_text xs xs e refl)) ] refl

mine : (tag other : List ℕ) (status : Status) → other ≡ tag → IsAwaited (if pointwise nat_eq other tag then Mine status else Stray)
mine tag other status e =
    let yes : pointwise nat_eq other tag ≡ true = ap (λ (x : List ℕ). pointwise nat_eq x tag) e ∙ same_is tag in
    subst (λ (b : Bool). IsAwaited (if b then Mine status else Stray)) (sym yes) tt

-- the tagged reply is waited for
pub tagged_awaited : (tag : List ℕ) (r : Reply) → tag_of r ≡ Some tag → IsAwaited (kind_of tag r)
tagged_awaited tag (Tagged other status text) e = let same : other ≡ tag = cc in mine tag other status same
tagged_awaited tag (Continue text) e = tt
tagged_awaited tag (Notice kind text) e = cc
tagged_awaited tag (Capability names) e = cc
tagged_awaited tag (Enabled names) e = cc
tagged_awaited tag (Listed attributes delimiter name) e = cc
tagged_awaited tag (Flags flags) e = cc
tagged_awaited tag (Exists n) e = cc
tagged_awaited tag (Expunge n) e = cc
tagged_awaited tag (Fetch n items) e = cc
tagged_awaited tag (Other word text) e = cc
tagged_awaited tag (OtherNumbered n event text) e = cc

-- of which kind is the tagged reply
of_tagged : (tag other : List ℕ) (status now : Status) (b : Bool) → (b ≡ pointwise nat_eq other tag) → (if b then Mine status else Stray) ≡ Mine now → other ≡ tag
of_tagged tag other status now true s e = same_text other tag s
of_tagged tag other status now false s e = cc

pub mine_tagged : (tag : List ℕ) (r : Reply) (status : Status) → kind_of tag r ≡ Mine status → tag_of r ≡ Some tag
mine_tagged tag (Tagged other now text) status e = ap (λ (t : List ℕ). Some t) (of_tagged tag other now status (pointwise nat_eq other tag) refl e)
mine_tagged tag (Continue text) status e = cc
mine_tagged tag (Notice notices.Ok text) status e = cc
mine_tagged tag (Notice notices.No text) status e = cc
mine_tagged tag (Notice notices.Bad text) status e = cc
mine_tagged tag (Notice notices.Bye text) status e = cc
mine_tagged tag (Notice notices.Preauth text) status e = cc
mine_tagged tag (Capability names) status e = cc
mine_tagged tag (Enabled names) status e = cc
mine_tagged tag (Listed attributes delimiter name) status e = cc
mine_tagged tag (Flags flags) status e = cc
mine_tagged tag (Exists n) status e = cc
mine_tagged tag (Expunge n) status e = cc
mine_tagged tag (Fetch n items) status e = cc
mine_tagged tag (Other word text) status e = cc
mine_tagged tag (OtherNumbered n event text) status e = cc

no_go : (status : Status) (b : Bool) → (if b then Mine status else Stray) ≡ Go → ⊥
no_go status true e = cc
no_go status false e = cc

-- `+` has no tag
pub go_or_tagged : (tag : List ℕ) (r : Reply) (t : List ℕ) → kind_of tag r ≡ Go → tag_of r ≡ Some t → ⊥
go_or_tagged tag (Continue text) t h k = cc
go_or_tagged tag (Tagged other status text) t h k = no_go status (pointwise nat_eq other tag) h
go_or_tagged tag (Notice kind text) t h k = cc
go_or_tagged tag (Capability names) t h k = cc
go_or_tagged tag (Enabled names) t h k = cc
go_or_tagged tag (Listed attributes delimiter name) t h k = cc
go_or_tagged tag (Flags flags) t h k = cc
go_or_tagged tag (Exists n) t h k = cc
go_or_tagged tag (Expunge n) t h k = cc
go_or_tagged tag (Fetch n items) t h k = cc
go_or_tagged tag (Other word text) t h k = cc
go_or_tagged tag (OtherNumbered n event text) t h k = cc
