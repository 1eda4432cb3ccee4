-- The plan of a process under a catalog.
use Rattle.std.specs.Prelude.{◌≡◌, ℕ, List, [], ◌∷◌, ◌++◌, ◌<◌, length, Option, Some, None, Result, Ok, Err}
use Rattle.process_tree.specs.Blocks.{outline}
use Rattle.process_tree.specs.Order.{Each}
use Rattle.process_tree.specs.declared.step.Step.{Step}
use Rattle.process_tree.specs.declared.tree.Named.{Named}
use Rattle.process_tree.specs.declared.plan.Plan.{Plan}
use Rattle.commute_table.specs.declared.op.Op.{Op}
use Rattle.commute_table.specs.declared.errors.BindError.{BindError}
use Rattle.commute_table.specs.declared.errors.BindError.TheVariants.{UnknownOp, NoMemory}
use Rattle.commute_table.specs.Document.{number_of}

infixl 10 ◌>>=◌
abbrev pub ◌>>=◌ : {A B : Type 0} → Result A BindError → (A → Result B BindError) → Result B BindError
(Ok x) >>= f = f x
(Err e) >>= f = Err e

-- the number, or the refusal of this name
abbrev pub number_or_unknown : List ℕ → Option ℕ → Result ℕ BindError
number_or_unknown name None = Err (UnknownOp name)
number_or_unknown name (Some n) = Ok n

-- the number of an operation's name
abbrev pub number_bound : List Op → List ℕ → Result ℕ BindError
number_bound ops name = number_or_unknown name (number_of ops name)

-- the numbers of these steps' operations, behind those; what is refused is the first unknown one in step order
unfoldable pub numbers_bound : List Op → List ℕ → List Step → Result (List ℕ) BindError
numbers_bound ops done [] = Ok done
numbers_bound ops done (s ∷ steps) = do
  n ← number_bound ops s.op
  numbers_bound ops (done ++ n ∷ []) steps

-- want of memory is free
abbrev pub Fails : {A : Type 0} → BindError → Result A BindError → Type 0
Fails (UnknownOp name) bound = bound ≡ Err (UnknownOp name)
Fails NoMemory bound = Unit {0}

abbrev pub Gives : {X A : Type 0} → (X → A) → Result X BindError → Result A BindError → Type 0
Gives view (Ok x) bound = bound ≡ Ok (view x)
Gives view (Err e) bound = Fails e bound

-- the plan has the process's name and tree, and the number of each step's operation
pub record IsPlanOf (named : Named) (ops : List Op) (plan : Plan) : Type 0 where
  pub name : plan.name ≡ named.name
  pub tree : plan.tree ≡ named.tree
  pub numbers : numbers_bound ops [] (outline named.tree).steps ≡ Ok plan.ops
  -- there is one number for each step, and each is that of an operation
  pub count : length plan.ops ≡ length (outline named.tree).steps
  pub within : Each (λ n. n < length ops) plan.ops

-- what is answered of a process under these operations
abbrev pub Binds : Named → List Op → Result Plan BindError → Type 0
Binds named ops (Ok plan) = IsPlanOf named ops plan
Binds named ops (Err e) = Fails e (numbers_bound ops [] (outline named.tree).steps)
