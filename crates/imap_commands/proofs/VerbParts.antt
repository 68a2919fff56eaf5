-- The words of commands, as a part of their grammar.
use Rattle.std.proofs.Common.{true, refl, inl, inr}
use Rattle.wire_reader.specs.declared.side.Speaker.{Speaker}
use Rattle.wire_reader.specs.Spelling.{Word}
use Rattle.wire_reader.proofs.Reader.{Closed}
use Rattle.wire_reader.proofs.Words.{Among}
use Rattle.wire_reader.proofs.Part.{Part, same_part}
use Rattle.wire_reader.proofs.PartWords.{IsKeyword, keys_part}
use Rattle.imap_commands.specs.declared.verb.Verb.{Verb}
use Rattle.imap_commands.specs.declared.verb.Verb.TheVariants as verbs
use Rattle.imap_commands.specs.Verbs.{word_of, session_verbs, verb_at}

keywords : (k : Verb) → IsKeyword (word_of k)
keywords verbs.Capability = (refl, refl)
keywords verbs.Noop = (refl, refl)
keywords verbs.Logout = (refl, refl)
keywords verbs.Login = (refl, refl)
keywords verbs.Enable = (refl, refl)
keywords verbs.List = (refl, refl)
keywords verbs.Create = (refl, refl)
keywords verbs.Select = (refl, refl)
keywords verbs.Append = (refl, refl)
keywords verbs.Fetch = (refl, refl)
keywords verbs.Store = (refl, refl)
keywords verbs.Expunge = (refl, refl)

each : (k : Verb) → Among word_of (λ v. (keywords v).0) verbs.Capability session_verbs k
each verbs.Capability = inl refl
each verbs.Noop = inr (inl refl)
each verbs.Logout = inr (inr (inl refl))
each verbs.Login = inr (inr (inr (inl refl)))
each verbs.Enable = inr (inr (inr (inr (inl refl))))
each verbs.List = inr (inr (inr (inr (inr (inl refl)))))
each verbs.Create = inr (inr (inr (inr (inr (inr (inl refl))))))
each verbs.Select = inr (inr (inr (inr (inr (inr (inr (inl refl)))))))
each verbs.Append = inr (inr (inr (inr (inr (inr (inr (inr (inl refl))))))))
each verbs.Fetch = inr (inr (inr (inr (inr (inr (inr (inr (inr (inl refl)))))))))
each verbs.Store = inr (inr (inr (inr (inr (inr (inr (inr (inr (inr (inl refl))))))))))
each verbs.Expunge = inr (inr (inr (inr (inr (inr (inr (inr (inr (inr (inr refl))))))))))

pub verb_part : {side : Speaker} → Part side true Closed (λ k t. Word (word_of k) t) verb_at
verb_part = same_part (λ k t h. h.1) (λ k t h. (each k, h)) (keys_part word_of keywords verbs.Capability session_verbs refl)
