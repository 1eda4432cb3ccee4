use Rattle.std.proofs.Common.{◌≡◌, ◌++◌, ◌∷◌, [], List, ℕ, Some, sym, ◌∙◌, ap, subst}
use Rattle.subsystem_store.specs.declared.effect.Effect.{Effect}
use Rattle.subsystem_store.specs.declared.effect.Record.TheVariants.{Prepared, Committed}
use Rattle.subsystem_store.specs.Bodies.{record_of, committed_bytes, last_number, AreBodiesOf}
use Rattle.subsystem_store.proofs.Records.{prepared_is, committed_is}
use Rattle.subsystem_store.proofs.StoreFiles.{bodies_prepared, bodies_committed, commits_are}
use Rattle.subsystem_store.proofs.account.Account.take.Goals as goal

pub returns-in_ok-take_prepared-in-Some-Prepared-clause-bodies : goal.returns-in_ok-take_prepared-in-Some-Prepared-clause-bodies
returns-in_ok-take_prepared-in-Some-Prepared-clause-bodies g c = λ bodies of.
    let effect = c.in-Some-Prepared.effect in
    let said : record_of c.args.body.now ≡ Some (Prepared effect) = cc in
    let ok = c.in_ok-take_prepared-in-Some-Prepared.ensures.ok in
    let book = c.args.self.now.book in
    let doubt = c.args.self.now.doubt in
    let with_body = subst (λ (b : List ℕ). AreBodiesOf book (doubt ++ effect ∷ []) (bodies ++ b ∷ [])) (prepared_is c.args.body.now effect said).bytes (bodies_prepared book doubt (effect ∷ []) bodies of) in
    subst (λ (b : List Effect). AreBodiesOf b c.take_prepared.new.self.doubt (bodies ++ c.args.body.now ∷ [])) (sym ok.2)
    (subst (λ (d : List Effect). AreBodiesOf book d (bodies ++ c.args.body.now ∷ [])) (sym ok.1) with_body)

pub returns-in_ok-take_committed-in-Some-Committed-clause-bodies : goal.returns-in_ok-take_committed-in-Some-Committed-clause-bodies
returns-in_ok-take_committed-in-Some-Committed-clause-bodies g c = λ bodies of.
    let number = c.in-Some-Committed.committed in
    let said : record_of c.args.body.now ≡ Some (Committed number) = cc in
    let ok = c.in_ok-take_committed-in-Some-Committed.ensures.ok in
    let book = c.args.self.now.book in
    let doubt = c.args.self.now.doubt in
    let due = commits_are doubt number ok.1 in
    let bytes : committed_bytes (last_number doubt) ≡ c.args.body.now = ap committed_bytes due.1 ∙ committed_is c.args.body.now number said in
    let with_body = subst (λ (b : List ℕ). AreBodiesOf (book ++ doubt) [] (bodies ++ b ∷ [])) bytes (bodies_committed book doubt bodies due.0 of) in
    subst (λ (b : List Effect). AreBodiesOf b c.take_committed.new.self.doubt (bodies ++ c.args.body.now ∷ [])) (sym ok.2)
    (subst (λ (d : List Effect). AreBodiesOf (book ++ doubt) d (bodies ++ c.args.body.now ∷ [])) (sym ok.3) with_body)
