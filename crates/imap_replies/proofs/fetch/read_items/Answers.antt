use Rattle.std.proofs.Common.{◌≡◌, ◌-◌, ℕ, List, ◌∷◌, [], suc, length, Result, Err, refl, sym, ap, ◌∙◌, arith}
use Rattle.std.proofs.lemmas.Slice.{pushed}
use Rattle.std.proofs.lemmas.Result.{err_from_is_err_and}
use Rattle.wire_reader.specs.declared.stop.Stop.{Stop}
use Rattle.wire_reader.proofs.Loops.{turn_err, turn_ends, turn_goes, turn_ends_list}
use Rattle.imap_replies.specs.declared.fetch.FetchItem.{FetchItem}
use Rattle.imap_replies.specs.Fetches.{item_at, item_list_at}
use Rattle.wire_tokens.proofs.SetParts.{bind_all}
use Rattle.imap_replies.proofs.fetch.read_items.Goals as goal

pub loop-init : goal.loop-init
unfolding item_list_at
loop-init c = let k : suc (length c.args.bytes.now) - 0 ≡ suc (length c.args.bytes.now) = omega arith in rw (c.new-items.ensures.items, k) (bind_all _)

pub returns-in_err-item : goal.returns-in_err-item
returns-in_err-item c =
    let p = err_from_is_err_and c.from_residual.result c.from_residual.ensures.1 in
    rw (p.1, p.2) (turn_err 32 item_at _ (suc (length c.args.bytes.now)) c.loop.counter _ c.loop.rest.now _ (omega arith) c.loop.invariant _ c.in_err-item.ensures)

pub loop-preserved : goal.loop-preserved
loop-preserved c =
    let more = pushed (c.in_ok-item.item ∷ []) refl c.in_ok-push.was c.push.ensures.items in
    rw more (turn_goes 32 item_at _ (suc (length c.args.bytes.now)) c.loop.counter _ c.loop.rest.now _ (omega arith) c.loop.invariant _ _ _ c.in_ok-item.ensures (rw c.in-Some.is at c.in_ok-next.ensures))

pub returns-in_err-next : goal.returns-in_err-next
returns-in_err-next c =
    let p = err_from_is_err_and c.from_residual-in_err-next.result c.from_residual-in_err-next.ensures.1 in
    rw (p.1, p.2) (turn_ends 32 item_at _ (suc (length c.args.bytes.now)) c.loop.counter _ c.loop.rest.now _ (omega arith) c.loop.invariant _ _ c.in_ok-item.ensures c.in_err-next.ensures.0 ∙ ap (λ (s : Stop). let o : Result (List FetchItem × List ℕ) Stop = Err s in o) (sym c.in_err-next.ensures.1))

pub returns-in-None : goal.returns-in-None
returns-in-None c =
    let n = rw c.in-None.is at c.in_ok-next.ensures in
    let more = pushed (c.in_ok-item.item ∷ []) refl c.in_ok-push.was c.push.ensures.items in
    rw more (turn_ends_list 32 item_at _ (suc (length c.args.bytes.now)) c.loop.counter _ c.loop.rest.now _ (omega arith) c.loop.invariant _ _ n.0 n.1 c.in_ok-item.ensures n.2 n.3)
