use Rattle.std.proofs.Common.{◌∙◌, ℕ, List, [], ◌∷◌, ◌++◌, ap, map, refl, subst, sym}
use Rattle.std.specs.Prelude.{string_bytes}
use Rattle.std.proofs.lemmas.List.{map-append}
use Rattle.std.proofs.lemmas.List.Elements.{All-push}
use Rattle.config.specs.declared.group.Member.{Member}
use Rattle.config.specs.Named.{member_name}
use Rattle.config.specs.Readings.{AreLines, IsLine}
use Rattle.config.proofs.GroupLemmas.{name_more}
use Rattle.config.proofs.group.GroupDraft.add.Goals as goal

pub loop-name-preserved : goal.loop-name-preserved
loop-name-preserved c = (
  name_more c.loop-name.self.members.items c.push.new.self.items _ (string_bytes c.in-Some.name) (map member_name c.args.self.now.members.items)
      (map string_bytes c.loop-name.yielded) c.in_ok-push.ensures.items refl c.loop-name.invariant.0
      ∙ ap (λ (l : List (List ℕ)). map member_name c.args.self.now.members.items ++ l) (sym (map-append string_bytes c.loop-name.yielded (c.in-Some.name ∷ []))),
  λ last line are.
      subst (λ (members : List Member). AreLines last members) (sym c.in_ok-push.ensures.items)
      (All-push (λ (m : Member). IsLine last m.line) _ _ (c.loop-name.invariant.1 last line are) line),
)

pub returns-in_err-push-clause-lines : goal.returns-in_err-push-clause-lines
returns-in_err-push-clause-lines c = λ last line are.
    subst (λ (members : List Member). AreLines last members) (sym c.in_err-push.ensures.items) (c.loop-name.invariant.1 last line are)
