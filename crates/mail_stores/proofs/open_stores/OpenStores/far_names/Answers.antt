use Rattle.std.proofs.Common.{◌∙◌, [], ap}
use Rattle.channels.specs.Boxes.{put_names}
use Rattle.mail_stores.proofs.ListedLemmas.{in_their_order}
use Rattle.mail_stores.proofs.open_stores.OpenStores.far_names.Goals as goal

-- they are listed in their order
pub returns-in_ok-ordered-in-Ok-clause-listed : goal.returns-in_ok-ordered-in-Ok-clause-listed
returns-in_ok-ordered-in-Ok-clause-listed g c =
    in_their_order _ _ _ _ _ c.in-Ok.ensures.listed (c.in_ok-ordered-in-Ok.ensures.names ∙ ap (put_names []) c.deref.ensures.value)
