use Rattle.std.proofs.Common.{◌≡◌, ◌∙◌, ◌++◌, ◌∷◌, List, ℕ, ap, map, string_bytes, subst}
use Rattle.std.specs.Prelude.{filter}
use Rattle.mailcore.specs.MailboxNames.{is_mailbox_name}
use Rattle.near_places.specs.Paths.{placed}
use Rattle.near_places.specs.Trees.{AreBoxesUnder}
use Rattle.near_places.specs.Trees.Look.{BoxAt}
use Rattle.near_places.specs.declared.tree.FolderNames.{FolderNames}
use Rattle.near_places.proofs.BoxLemmas.{are_boxes}
use Rattle.near_places.proofs.boxes.near_boxes.Goals as goal

pub returns : goal.returns
returns g c =
    let found : FolderNames = c.in_ok-within.field-0 in
    let root : List ℕ = string_bytes c.in_ok-root.root in
    let inbox : List ℕ = string_bytes c.in_ok-inbox.inbox in
    let at_root : root ≡ placed c.args.home.now (string_bytes c.args.store.now.path) =
    c.in_ok-root.ensures ∙ ap (λ (p : List ℕ). placed c.args.home.now p) c.deref.ensures in
    let at_inbox : inbox ≡ placed c.args.home.now (string_bytes c.args.store.now.inbox) =
    c.in_ok-inbox.ensures ∙ ap (λ (p : List ℕ). placed c.args.home.now p) c.deref-2.ensures in
    let under : AreBoxesUnder root inbox found.looks.looks (map string_bytes found.within.items) =
    subst (λ (i : List ℕ). AreBoxesUnder root i found.looks.looks (map string_bytes found.within.items)) c.as_str.ensures.value c.in_ok-within.ensures in
    let noted : c.is_mailbox.new.self.looks ≡ BoxAt inbox c.in_ok-has_inbox.has_inbox ∷ found.looks.looks =
    subst (λ (i : List ℕ). c.is_mailbox.new.self.looks ≡ BoxAt i c.in_ok-has_inbox.has_inbox ∷ found.looks.looks) c.as_str-2.ensures.value
    c.in_ok-has_inbox.ensures.noted in
    record {
      names = are_boxes c.args.home.now c.args.store.now root inbox c.in_ok-has_inbox.has_inbox found.looks.looks c.is_mailbox.new.self.looks found.within.items
          c.sort.new.self.items c.add_names.new.names.items at_root at_inbox under c.sort.ensures.permutation noted
          (c.in_ok-add_names.ensures ∙ ap (λ (l : List (List ℕ)). l ++ filter is_mailbox_name (map string_bytes c.sort.new.self.items)) c.in_ok-names.ensures);
    }
