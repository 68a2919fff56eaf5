use Rattle.std.proofs.Common.{◌≡◌, ◌-◌, ◌^◌, ◌≤◌, ℕ, List, length, min, subst, arith}
use Rattle.wire_tokens.proofs.AppendLemmas.{then_written}
use Rattle.mailcore.specs.CopyPieces.{text_left}
use Rattle.imap_client.specs.Appending.{FrontText, names_to_add}
use Rattle.imap_client.proofs.InTwo.{whole}
use Rattle.imap_client.proofs.addition.Addition.front.Goals as goal

exact : (n len : ℕ) → n ≡ min len (2 ^ 64 - 1) → len ≤ 16777238 → n ≡ len
exact n len is most = omega (arith, is, most)

pub returns : goal.returns
returns c =
    let a = c.args.self.now in
    let out = c.append-6.new.out.items in
    subst (λ (n : ℕ). FrontText c.args.tag.now a.name.now (names_to_add a) n out)
    (exact c.text_len.result (length (text_left a.octets)) c.text_len.ensures c.requires.message.literal.most)
    (subst (λ (names : List (List ℕ)). FrontText c.args.tag.now a.name.now names c.text_len.result out) c.in_ok-flags.ensures
    (whole _ _ _ c.new-front.ensures.items
    (then_written c.in_ok-write.ensures.ok (then_written c.in_ok-append.ensures.ok (then_written c.in_ok-append-2.ensures.ok (then_written c.in_ok-write_quoted.ensures.ok
    (then_written c.in_ok-append-3.ensures.ok (then_written c.in_ok-write-2.ensures.ok (then_written c.in_ok-append-4.ensures.ok (then_written c.in_ok-append-5.ensures.ok
    (then_written c.in_ok-write_number.ensures.ok c.in_ok-append-6.ensures.ok)))))))))))
