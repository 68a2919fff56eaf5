use Rattle.std.proofs.Common.{◌∙◌, ap}
use Rattle.mail_stores.proofs.ListedLemmas.{heard_names}
use Rattle.mail_stores.proofs.open_stores.OpenStores.names_over.Goals as goal

-- what was heard are the names at the server of the store
pub returns-in-Ok-of-clause-listed : goal.returns-in-Ok-of-clause-listed
returns-in-Ok-of-clause-listed g c =
    heard_names _ _ c.in_ok-session.session _ _ _ c.in-Ok.ensures c.in_ok-session.ensures.server
    (ap (λ names. names.items) c.synchronised.ensures.names ∙ c.in-Ok-of.ensures.synchronised)
