-- Commands as a grammar of lines.
use Rattle.std.proofs.Common.{true, refl, sym, subst}
use Rattle.wire_reader.specs.declared.side.Speaker.TheVariants.{Commands}
use Rattle.wire_reader.specs.Spelling.{◌⨾◌, Word}
use Rattle.wire_reader.specs.Reading.{seq}
use Rattle.wire_reader.proofs.Reader.{Closed}
use Rattle.wire_reader.proofs.Parts.{after_closed}
use Rattle.wire_reader.proofs.Follow.{starts_byte, starts_seq, after}
use Rattle.wire_reader.proofs.Part.{Part, same_part, mapped_part, seq_part, skip_part, both_part, byte_part}
use Rattle.wire_tokens.specs.Atoms.{is_tag_byte}
use Rattle.wire_tokens.proofs.AtomParts.{tag_part}
use Rattle.imap_commands.specs.declared.verb.Verb.{Verb}
use Rattle.imap_commands.specs.Verbs.{word_of, verb_at}
use Rattle.imap_commands.specs.Requests.{verb_of, RequestText}
use Rattle.imap_commands.specs.RequestReaders.{request_at}
use Rattle.imap_commands.specs.Commands.{Spelled, command_of, command_at}
use Rattle.imap_commands.proofs.VerbParts.{verb_part}
use Rattle.imap_commands.proofs.RequestParts.{request_part}

-- a word, and what follows it
worded_part : Part Commands true Closed (λ r. Word (word_of (verb_of r)) ⨾ RequestText r) (seq verb_at request_at)
worded_part = same_part
    (λ r t h. let word : Word (word_of (verb_of r)) h.front = subst (λ (k : Verb). Word (word_of k) h.front) (sym h.second.0) h.first in record { front = h.front; back = h.back; parts = h.parts; first = word; second = h.second.1 })
    (λ r t h. record { value = verb_of r; front = h.front; back = h.back; parts = h.parts; first = h.first; second = (refl, h.second) })
    (seq_part verb_part request_part (λ k. after_closed (request_at k)))

pub command_part : Part Commands true Closed Spelled command_at
unfolding command_at
command_part = mapped_part command_of (λ p t h. h) (λ c t h. ((c.tag, c.request), refl, h))
    (both_part tag_part (skip_part (byte_part 32 refl) worded_part (after_closed _)) (after is_tag_byte 32 refl (starts_seq _ (starts_byte 32))))
