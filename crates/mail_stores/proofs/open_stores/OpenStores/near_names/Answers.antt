use Rattle.std.proofs.Common.{◌∙◌, [], ap}
use Rattle.channels.specs.Boxes.{put_names}
use Rattle.mail_stores.proofs.ListedLemmas.{found_in_order}
use Rattle.mail_stores.proofs.open_stores.OpenStores.near_names.Goals as goal

-- those that a server can have are found, in their order
pub returns-in-Ok-of-clause-found : goal.returns-in-Ok-of-clause-found
returns-in-Ok-of-clause-found g c =
    found_in_order c.args.self.now.reach.home c.args.store.now _ _ _ _ c.in-Ok.ensures c.in-Ok-of.ensures
    (c.in_ok-ordered-in-Ok-of.ensures.names ∙ ap (put_names []) (c.deref.ensures.value ∙ ap (λ names. names.items) c.servable.ensures.names))
