use Rattle.std.proofs.Common.{◌∙◌, rules, tests}
use Rattle.std.specs.Prelude.{bytes_eq, string_bytes}
use Rattle.std.proofs.lemmas.Iterator.{YieldsList-from_slice}
use Rattle.std.proofs.lemmas.Iterator.Search.{position_from_yields_List}
use Rattle.config.specs.declared.config.ImapStore.{ImapStore}
use Rattle.config.proofs.NameLemmas.{named_place}
use Rattle.config.specs.Configurations.{imap_value}
use Rattle.config.proofs.draft.Draft.imap_store.Goals as goal

pub returns : goal.returns
returns c =
    position_from_yields_List (λ (store : ImapStore). bytes_eq (string_bytes store.name) c.args.name.now) _ _ _ c.position.ensures.ran
    (YieldsList-from_slice c.args.self.now.config.imap_stores.items (c.iter.ensures.rest ∙ c.deref.ensures.value))
    (λ x b q k. search (rules, tests))
    ∙ named_place imap_value (λ m. m.name) c.args.name.now c.args.self.now.config.imap_stores.items
