use Rattle.std.proofs.Common.{◌≡◌, ℕ, List, sym, subst}
use Rattle.mailcore.specs.declared.keywords.Keyword.{Keyword}
use Rattle.mailcore.specs.KeywordNames.{IsMap, names_of as names_of_set}
use Rattle.wire_tokens.specs.declared.spaced.NameKind.TheVariants as kinds
use Rattle.wire_tokens.specs.FlagLists.{ListedText, spaced_out}
use Rattle.wire_tokens.proofs.FlagTexts.{set_names, spaced_spelled, listed_are}
use Rattle.wire_tokens.proofs.flag_list.FlagList.of.Goals as goal

spelled : (keywords : List Keyword) (flags : ℕ) (t : List ℕ) → IsMap keywords → t ≡ spaced_out (names_of_set keywords flags) → ListedText kinds.Flag (names_of_set keywords flags) t
spelled keywords flags t m h = subst (ListedText kinds.Flag (names_of_set keywords flags)) (sym h) (spaced_spelled kinds.Flag (names_of_set keywords flags) (set_names keywords flags m))

pub invariant_of-result : goal.invariant_of-result
invariant_of-result c =
    let names : List (List ℕ) = names_of_set c.args.keywords.now c.args.flags in
    let text : List ℕ = c.in_ok-text.text.items in
    let s : ListedText kinds.Flag names text = spelled c.args.keywords.now c.args.flags text c.in_ok-text.ensures.map c.in_ok-text.ensures.text in
    subst (λ (ns : List (List ℕ)). ListedText kinds.Flag ns text) (sym (listed_are kinds.Flag names text s)) s

pub returns : goal.returns
returns c =
    listed_are kinds.Flag (names_of_set c.args.keywords.now c.args.flags) c.in_ok-text.text.items
    (spelled c.args.keywords.now c.args.flags c.in_ok-text.text.items c.in_ok-text.ensures.map c.in_ok-text.ensures.text)
