use Rattle.std.proofs.Common.{◌≡◌, ◌+◌, ◌++◌, ◌∷◌, [], Ok, refl, sym, ◌∙◌, ap, subst, arith, append_assoc, length}
use Rattle.subsystem_store.specs.Bodies.{AreBodiesOf, record_of}
use Rattle.subsystem_store.specs.Answers.{RefusedAs}
use Rattle.subsystem_store.specs.Opened.{book_of}
use Rattle.subsystem_store.specs.Order.{read_bodies, read_on, after_body}
use Rattle.subsystem_store.proofs.Reading.{refused_on}
use Rattle.subsystem_store.proofs.StoreFiles.{no_bodies}
use Rattle.subsystem_store.proofs.account.Account.replay.Goals as goal

pub returns-in-Err-clause-refused : goal.returns-in-Err-clause-refused
returns-in-Err-clause-refused g c =
    let kind = c.args.self.kind in
    let n = c.bodies.number in
    let at = book_of c.bodies.account in
    let refused = c.in-Err.ensures.refused in
    let here = subst (λ k. RefusedAs (after_body k n at (record_of c.bytes.result.now)) c.in-Err.why) c.bodies.invariant.kind refused.0 in
    let body = subst (λ b. RefusedAs (after_body kind n at (record_of b)) c.in-Err.why) c.bytes.ensures here in
    let on = refused_on (read_bodies kind (n + 1) c.in-Some.after.now) (after_body kind n at (record_of c.in-Some.body.now)) c.in-Err.why body in
    (subst (λ found. RefusedAs found c.in-Err.why) (ap (λ bs. read_bodies kind n bs at) (sym c.in-Some.ensures.cases.0) ∙ c.bodies.invariant.read) on, refused.1)

pub bodies-init : goal.bodies-init
bodies-init g c = record {
  fits = c.requires.fits;
  kind = refl;
  sort = refl;
  read = ap (λ b. read_bodies c.args.self.kind 1 c.args.bodies.now b) (ap (λ bs. record { book = bs; doubt = c.args.self.doubt }) c.requires.unused.0 ∙ ap (λ d. record { book = []; doubt = d }) c.requires.unused.1);
  taken = [];
  of = subst (λ b. AreBodiesOf b c.args.self.doubt []) (sym c.requires.unused.0) (subst (λ d. AreBodiesOf [] d []) (sym c.requires.unused.1) no_bodies);
  all = refl;
  number = refl;
}

pub bodies-preserved : goal.bodies-preserved
bodies-preserved g c =
    let kind = c.args.self.kind in
    let n = c.bodies.number in
    let at = book_of c.bodies.account in
    let taken = c.in_default-take.ensures.read in
    let here = subst (λ k. after_body k n at (record_of c.bytes.result.now) ≡ Ok (book_of c.take.new.self)) c.bodies.invariant.kind taken in
    let body = subst (λ b. after_body kind n at (record_of b) ≡ Ok (book_of c.take.new.self)) c.bytes.ensures here in
    let split = c.in-Some.ensures.cases.0 in
    record {
      fits = c.take.ensures.fits;
      kind = c.take.ensures.same ∙ c.bodies.invariant.kind;
      sort = c.take.ensures.sort ∙ c.bodies.invariant.sort;
      read = sym (ap (read_on (read_bodies kind (n + 1) c.in-Some.after.now)) body) ∙ ap (λ bs. read_bodies kind n bs at) (sym split) ∙ c.bodies.invariant.read;
      taken = c.bodies.invariant.taken ++ c.in-Some.body.now ∷ [];
      of = subst (λ b. AreBodiesOf c.take.new.self.book c.take.new.self.doubt (c.bodies.invariant.taken ++ b ∷ [])) c.bytes.ensures (c.in_default-take.ensures.bodies c.bodies.invariant.taken c.bodies.invariant.of);
      all = append_assoc c.bodies.invariant.taken (c.in-Some.body.now ∷ []) c.in-Some.after.now ∙ ap (λ bs. c.bodies.invariant.taken ++ bs) (sym split) ∙ c.bodies.invariant.all;
      number = omega (arith, ap length split, c.bodies.invariant.number);
    }
