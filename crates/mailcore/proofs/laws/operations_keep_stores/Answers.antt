use Rattle.mailcore.proofs.OperationLemmas.{is_store-added, is_store-set_aside, is_store-flagged, is_store-expunged}
use Rattle.mailcore.proofs.laws.operations_keep_stores.Goals as goal

pub returns : goal.returns
returns c = record { added = is_store-added; set_aside = is_store-set_aside; flagged = is_store-flagged; expunged = is_store-expunged }
