-- What lines with their answers come to, one after another.
use Rattle.std.proofs.Common.{◌≡◌, ◌≤◌, ◌∙◌, ℕ, List, [], ◌∷◌, ◌++◌, length, Some, refl, ap, sym, subst, append-nil, append_assoc, arith}
use Rattle.std.specs.Io.KnownBytes.{Appends, Consumes}
use Rattle.std.proofs.KnownBytes.{Appends-nil, Appends-trans, Consumes-nil, Consumes-trans}
use Rattle.process_flow.specs.declared.source.Source.{Ghosts as Sources}
use Rattle.process_flow.specs.declared.sink.Sink.{Ghosts as Sinks}
use Rattle.process_disk.specs.declared.rack.Rack.{Ghosts as Racks}
use Rattle.process_disk.specs.Disk.{IsHonest, Told}
use Rattle.process_tree.specs.declared.plan.Plan.{Plan}
use Rattle.trace_verify.specs.Lines.{cut}
use Rattle.line_reader.specs.Taking.{most_ahead}
use Rattle.line_reader.proofs.Cuts.{cut-whole}
use Rattle.serve_run.specs.Dialogue.{AreAnswered, AreExchanged, AreReadInTurn, DialogueState, Exchange, IsExchange, bytes_of, driver_state, next_number, number_behind, printed_of}

-- a line stands in front of the lines behind it
line_behind : (ready given line rest more bytes left : List ℕ) → cut 10 (ready ++ given) ≡ Some (line, rest) → rest ++ more ≡ bytes ++ left → ready ++ (given ++ more) ≡ ((line ++ 10 ∷ []) ++ bytes) ++ left
line_behind ready given line rest more bytes left is behind =
    sym (append_assoc ready given more)
    ∙ ap (λ xs. xs ++ more) (cut-whole 10 (ready ++ given) line rest is)
    ∙ append_assoc line (10 ∷ rest) more
    ∙ ap (λ xs. line ++ 10 ∷ xs) behind
    ∙ sym (append_assoc line (10 ∷ []) (bytes ++ left))
    ∙ sym (append_assoc (line ++ 10 ∷ []) bytes left)

module _ {S K R B : Type 0} (s : Sources S) (k : Sinks K) (r : Racks R) (honest : (rack : R) → Told (r.disk rack) → IsHonest (r.disk rack)) (plans : List Plan) where
  -- the catalog stays
  pub same_catalog : (a b : DialogueState S K R B) (xs : List Exchange) → AreExchanged s k r plans a xs b → b.engine.catalog ≡ a.engine.catalog
  same_catalog a b [] is = ap (λ (d : DialogueState S K R B). d.engine.catalog) (sym is)
  same_catalog a b (x ∷ xs) (m, one, more) = same_catalog m b xs more ∙ one.goes.catalog

  -- the lines are answered
  pub are_answered : (a b : DialogueState S K R B) (xs : List Exchange) → AreExchanged s k r plans a xs b → AreAnswered a.engine.catalog plans (driver_state a) a.number xs (driver_state b)
  are_answered a b [] is = ap driver_state is
  are_answered a b (x ∷ xs) (m, one, more) = (
    one.answered,
    subst (λ t. AreAnswered a.engine.catalog plans t (next_number a.number) xs (driver_state b)) (sym one.state)
        (subst (λ n. AreAnswered a.engine.catalog plans (driver_state m) n xs (driver_state b)) one.next
        (subst (λ c. AreAnswered c plans (driver_state m) m.number xs (driver_state b)) one.goes.catalog (are_answered m b xs more))),
  )

  -- their numbers go up
  pub numbered : (a b : DialogueState S K R B) (xs : List Exchange) → AreExchanged s k r plans a xs b → b.number ≡ number_behind a.number xs
  numbered a b [] is = ap (λ (d : DialogueState S K R B). d.number) (sym is)
  numbered a b (x ∷ xs) (m, one, more) = numbered m b xs more ∙ ap (λ n. number_behind n xs) one.next

  -- they stand in front of what was taken
  pub lines_taken : (a b : DialogueState S K R B) (xs : List Exchange) → AreExchanged s k r plans a xs b
      → (given : List ℕ) × Consumes (s.left a.source) (s.left b.source) given × (a.ready ++ given ≡ bytes_of xs ++ b.ready)
  lines_taken a b [] is = (
    [],
    subst (λ (d : DialogueState S K R B). Consumes (s.left a.source) (s.left d.source) []) is (Consumes-nil (s.left a.source)),
    append-nil a.ready ∙ ap (λ (d : DialogueState S K R B). d.ready) is,
  )
  lines_taken a b (x ∷ xs) (m, one, more) =
      let rest = lines_taken m b xs more in (
        one.given ++ rest.0,
        Consumes-trans (s.left a.source) (s.left m.source) (s.left b.source) one.given rest.0 one.consumed rest.1,
        line_behind a.ready one.given x.line m.ready rest.0 (bytes_of xs) b.ready one.line rest.2,
      )

  -- nothing was read ahead of a line that stood ready
  pub read_in_turn : (a b : DialogueState S K R B) (xs : List Exchange) (is : AreExchanged s k r plans a xs b) (more : List ℕ) → AreReadInTurn a.ready ((lines_taken a b xs is).0 ++ more) xs
  unfolding lines_taken
  read_in_turn a b [] is more = tt
  read_in_turn a b (x ∷ xs) (m, one, behind) more =
      let rest = lines_taken m b xs behind in (
        one.given,
        rest.0 ++ more,
        append_assoc one.given rest.0 more,
        one.needed,
        one.line ∙ ap (λ bs. Some (x.line, bs)) (sym one.ahead),
        subst (λ bs. length bs ≤ most_ahead) (sym one.ahead) one.little,
        subst (λ bs. AreReadInTurn bs (rest.0 ++ more) xs) (sym one.ahead) (read_in_turn m b xs behind more),
      )

  -- their answers were given
  pub answers_given : (a b : DialogueState S K R B) (xs : List Exchange) → AreExchanged s k r plans a xs b → Appends (k.taken a.sink) (k.taken b.sink) (printed_of xs)
  answers_given a b [] is = subst (λ (d : DialogueState S K R B). Appends (k.taken a.sink) (k.taken d.sink) []) is (Appends-nil (k.taken a.sink))
  answers_given a b (x ∷ xs) (m, one, more) = Appends-trans (k.taken a.sink) (k.taken m.sink) (k.taken b.sink) x.answer (printed_of xs) one.told (answers_given m b xs more)

  -- and no call of the source or of the sink failed
  pub no_read_fault : (a b : DialogueState S K R B) (xs : List Exchange) → AreExchanged s k r plans a xs b → s.faults b.source ≡ s.faults a.source
  no_read_fault a b [] is = ap (λ (d : DialogueState S K R B). s.faults d.source) (sym is)
  no_read_fault a b (x ∷ xs) (m, one, more) = no_read_fault m b xs more ∙ one.no_read_fault

  pub no_write_fault : (a b : DialogueState S K R B) (xs : List Exchange) → AreExchanged s k r plans a xs b → k.faults b.sink ≡ k.faults a.sink
  no_write_fault a b [] is = ap (λ (d : DialogueState S K R B). k.faults d.sink) (sym is)
  no_write_fault a b (x ∷ xs) (m, one, more) = no_write_fault m b xs more ∙ one.no_write_fault

  -- the rack's count of faults didn't fall
  pub no_fewer_faults : (a b : DialogueState S K R B) (xs : List Exchange) → AreExchanged s k r plans a xs b → r.faults a.engine.files.rack ≤ r.faults b.engine.files.rack
  no_fewer_faults a b [] is = subst (λ (d : DialogueState S K R B). r.faults a.engine.files.rack ≤ r.faults d.engine.files.rack) is (omega arith)
  no_fewer_faults a b (x ∷ xs) (m, one, more) = let first = one.goes.later in let rest = no_fewer_faults m b xs more in omega (arith, first, rest)

  -- one line more comes behind
  pub one_more : (a b d : DialogueState S K R B) (xs : List Exchange) (x : Exchange) → AreExchanged s k r plans a xs b → IsExchange s k r plans x b d → AreExchanged s k r plans a (xs ++ x ∷ []) d
  one_more a b d [] x is one = (d, subst (λ (e : DialogueState S K R B). IsExchange s k r plans x e d) (sym is) one, refl)
  one_more a b d (y ∷ xs) x (m, first, more) one = (m, first, one_more m b d xs x more one)
