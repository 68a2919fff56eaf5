-- A server that knows the names of a map, and says so at SELECT, keeps each flag that has a name.
use Rattle.std.proofs.Common.{◌≡◌, ◌<◌, ℕ, Bool, true, false, List, refl, sym, ◌∙◌, ap, subst, arith}
use Rattle.std.specs.Prelude.{◌&&◌, ◌||◌, ◌==◌, not}
use Rattle.std.specs.List.{list_all}
use Rattle.mailcore.specs.declared.flags.Flag.{Flag}
use Rattle.mailcore.specs.declared.keywords.Keyword.{Keyword}
use Rattle.mailcore.specs.FlagNames.{place}
use Rattle.mailcore.specs.FlagSet.{FLAGS, has, minus}
use Rattle.mailcore.specs.KeywordNames.{IsMap, known_set, named_set}
use Rattle.mailcore.proofs.FlagLetters.{has-zero}
use Rattle.mailcore.proofs.FlagRules.{has-minus, minus-lt, set_from_flags}
use Rattle.mailcore.proofs.KeywordLemmas.{read_same}
use Rattle.mailcore.proofs.KnownFlags.{has-known, known-within}
use Rattle.imap_session.specs.MailboxCommands.{all_names}
use Rattle.imap_answers.specs.Openings.{permits_all, system_flags}

module _ (keywords : List Keyword) where
  -- the flags that are no keywords have names
  systems : list_all (λ (flag : Flag). has (known_set keywords) (place flag)) system_flags ≡ true
  systems =
      let answered : has (known_set keywords) 3 ≡ true = has-known keywords 3 (omega arith) in
      let deleted : has (known_set keywords) 5 ≡ true = has-known keywords 5 (omega arith) in
      let draft : has (known_set keywords) 0 ≡ true = has-known keywords 0 (omega arith) in
      let flagged : has (known_set keywords) 1 ≡ true = has-known keywords 1 (omega arith) in
      let seen : has (known_set keywords) 4 ≡ true = has-known keywords 4 (omega arith) in
      five (has (known_set keywords) 3) (has (known_set keywords) 5) (has (known_set keywords) 0) (has (known_set keywords) 1) (has (known_set keywords) 4) answered deleted draft flagged seen
    where
      five : (a b c d e : Bool) → a ≡ true → b ≡ true → c ≡ true → d ≡ true → e ≡ true → (a && (b && (c && (d && (e && true))))) ≡ true
      five a b c d e is_a is_b is_c is_d is_e =
          ap (λ (x : Bool). x && (b && (c && (d && (e && true))))) is_a ∙ ap (λ (x : Bool). x && (c && (d && (e && true)))) is_b ∙ ap (λ (x : Bool). x && (d && (e && true))) is_c ∙ ap (λ (x : Bool). x && (e && true)) is_d
          ∙ ap (λ (x : Bool). x && true) is_e

  none_at : (k : ℕ) → k < FLAGS → has (minus (known_set keywords) (known_set keywords)) k ≡ false
  none_at k lt = has-minus (known_set keywords) (known_set keywords) k lt ∙ both (has (known_set keywords) k)
    where
      both : (b : Bool) → (b && not b) ≡ false
      both true = refl
      both false = refl

  all_there : minus (known_set keywords) (known_set keywords) ≡ 0
  all_there = set_from_flags _ 0 (minus-lt (known_set keywords) (known_set keywords)) (omega arith) (λ k lt. none_at k lt ∙ sym (has-zero k))

  pub permits_known : (others : Bool) → IsMap keywords → permits_all keywords (named_set keywords (all_names keywords)) others ≡ true
  permits_known others map =
      subst (λ (flags : ℕ). permits_all keywords flags others ≡ true) (sym (read_same keywords (known_set keywords) map (known-within keywords)))
      (ap (λ (b : Bool). b && (others || minus (known_set keywords) (known_set keywords) == 0)) systems ∙ ap (λ (n : ℕ). others || n == 0) all_there ∙ either others)
    where
      either : (b : Bool) → (b || true) ≡ true
      either true = refl
      either false = refl
