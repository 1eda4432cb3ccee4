use Rattle.std.proofs.Common.{◌≡◌, ◌≤◌, ◌+◌, ◌++◌, ◌∷◌, [], ◌∙◌, List, ℕ, arith, ap, length, take}
use Rattle.std.proofs.lemmas.List.{take_at}
use Rattle.gate_log.specs.LogFile.{framed, records_size}
use Rattle.gate_log.specs.Staging.{staged_in}
use Rattle.gate_log.proofs.Framing.{StagedBytes, count_within, view_grown, staged_grown}
use Rattle.gate_log.proofs.Staging.{size_of}
use Rattle.gate_log.proofs.staged.Staged.add.Goals as goal

pub frame_at-requires-clause-body : goal.frame_at-requires-clause-body
frame_at-requires-clause-body c = omega (arith, c.requires.room)

pub frame_at-requires-clause-room : goal.frame_at-requires-clause-room
frame_at-requires-clause-room c =
    let was = c.self.invariant in
    omega (arith, c.requires.room, ap records_size c.self.view_is, size_of _ c.self.inside.size c.self.inside.bytes.items was.0 was.1 was.2, was.0, ap length c.deref_mut.ensures.value)

pub overflow_add-self-3 : goal.overflow_add-self-3
overflow_add-self-3 c =
    let was = c.self.invariant in
    let staged : StagedBytes (staged_in (take (c.self.inside.size + 1) c.self.inside.bytes.items)) c.self.inside.size c.self.inside.count c.self.inside.bytes.items = record { long = was.0; room = was.1; are = was.2; count = was.3 } in
    omega (arith, count_within _ _ _ _ staged)

pub invariant_of-self : goal.invariant_of-self
invariant_of-self c =
    let was = c.self.invariant in
    let old = c.self.inside.bytes.items in
    let bodies = staged_in (take (c.self.inside.size + 1) old) in
    let staged : StagedBytes bodies c.self.inside.size c.self.inside.count old = record { long = was.0; room = was.1; are = was.2; count = was.3 } in
    let same : length c.frame_at.new.buffer ≡ length old = c.frame_at.ensures.same ∙ ap length c.deref_mut.ensures.value in
    let bytes = c.frame_at.ensures.bytes ∙ ap (λ (l : List ℕ). take c.self.inside.size l ++ (1 ∷ framed c.args.body.now ++ 0 ∷ [])) c.deref_mut.ensures.value in
    let room : c.self.inside.size + (3 + length c.args.body.now) ≤ 65538 = omega (arith, c.requires.room, ap records_size c.self.view_is, size_of bodies c.self.inside.size old was.0 was.1 was.2) in
    staged_grown bodies c.args.body.now old c.frame_at.new.buffer _ c.self.inside.size c.self.inside.count staged (take_at c.frame_at.new.buffer _ _ (c.frame_at.ensures.same ∙ c.deref_mut.ensures.len)) same room bytes

pub returns : goal.returns
returns c =
    let was = c.self.invariant in
    let old = c.self.inside.bytes.items in
    let bodies = staged_in (take (c.self.inside.size + 1) old) in
    let staged : StagedBytes bodies c.self.inside.size c.self.inside.count old = record { long = was.0; room = was.1; are = was.2; count = was.3 } in
    let bytes = c.frame_at.ensures.bytes ∙ ap (λ (l : List ℕ). take c.self.inside.size l ++ (1 ∷ framed c.args.body.now ++ 0 ∷ [])) c.deref_mut.ensures.value in
    view_grown bodies c.args.body.now old c.frame_at.new.buffer _ c.self.inside.size c.self.inside.count staged (take_at c.frame_at.new.buffer _ _ (c.frame_at.ensures.same ∙ c.deref_mut.ensures.len)) bytes
    ∙ ap (λ (l : List (List ℕ)). l ++ c.args.body.now ∷ []) c.self.view_is
