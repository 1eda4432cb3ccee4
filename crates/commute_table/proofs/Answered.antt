-- What a document's table says is never that the document is none.
use Rattle.std.proofs.Common.{◌≡◌, ℕ, Bool, true, false, cond, List, [], ◌∷◌, ◌++◌, length, Option, Some, None, Result, Ok, Err, refl, codes}
use Rattle.std.specs.Prelude.{IsUtf8, nat_lt, option_and_then}
use Rattle.toml.specs.Data.{Data, Items, no_items, item, Members, get_member, as_table, as_array, as_str}
use Rattle.toml.specs.Parse.{parse_document}
use Rattle.process_tree.specs.Name.{is_name}
use Rattle.process_tree.specs.declared.conflicts.Mode.{Mode}
use Rattle.process_tree.specs.Conflicts.{no_conflicts}
use Rattle.commute_table.specs.declared.op.Op.{Op}
use Rattle.commute_table.specs.declared.op.Verb.{Verb}
use Rattle.commute_table.specs.declared.document.Keys.{Keys}
use Rattle.commute_table.specs.declared.document.Keys.TheVariants.{OfDocument, OfOperation}
use Rattle.commute_table.specs.declared.pairs.Pair.{Pair}
use Rattle.commute_table.specs.declared.scenario.Scenario.{Scenario}
use Rattle.commute_table.specs.declared.errors.ScenarioError.{ScenarioError}
use Rattle.commute_table.specs.declared.errors.ScenarioError.TheVariants.{BadToml, BadKey, UnknownOp, SameOp, Ops, NoMemory}
use Rattle.commute_table.specs.Operations.{is_version, takes, has_name}
use Rattle.commute_table.specs.Document.{Said, ◌>>=◌, Gives, IsAnswer, least_unknown, unless_unknown, known_keys, text_at, number_at, version_or_bad, version_said, name_or_bad, name_said, subsystem_or_bad, subsystem_said, verb_named, verb_or_bad, verb_said, op_said, are_tables, items_length, table_said, ops_said, few_said, tables_or_bad, operations_by_key, operations_said, number_of, number_or_unknown, number_said, NamedPair, pair_in, pair_said, are_pairs, pairs_said, some_disagree, with_pairs, table_or_bad, table_of_items, pairs_or_bad, conflicts_by_key, conflicts_said, text_or_bad, processes_by_key, processes_said, catalog_said, scenario_said}

abbrev bad_toml : {A : Type 0} → Said A
bad_toml = Err BadToml

-- it isn't said that the document is none
pub record IsReal {A : Type 0} (said : Said A) : Type 0 where
  pub real : said ≡ bad_toml → ⊥

real_then : {A B : Type 0} (r : Said A) (f : A → Said B) → IsReal r → ((x : A) → IsReal (f x)) → IsReal (r >>= f)
real_then (Ok x) f h k = k x
real_then (Err BadToml) f h k = absurd (h.real refl)
real_then (Err (BadKey s)) f h k = record { real = λ e. cc }
real_then (Err (UnknownOp s)) f h k = record { real = λ e. cc }
real_then (Err (SameOp s)) f h k = record { real = λ e. cc }
real_then (Err (Ops n)) f h k = record { real = λ e. cc }
real_then (Err NoMemory) f h k = record { real = λ e. cc }

real_ok : {A : Type 0} (x : A) → IsReal {A = A} (Ok x)
real_ok x = record { real = λ e. cc }

real_key : {A : Type 0} (k : List ℕ) → IsReal {A = A} (Err (BadKey k))
real_key k = record { real = λ e. cc }

real_if : {A : Type 0} (b : Bool) (r s : Said A) → IsReal r → IsReal s → IsReal (cond b r s)
real_if true r s h k = h
real_if false r s h k = k

real_keys : (keys : Keys) (ms : Members) → IsReal (known_keys keys ms)
real_keys keys ms = by_case (least_unknown keys ms)
  where
    by_case : (o : Option (List ℕ)) → IsReal (unless_unknown o)
    by_case None = real_ok tt
    by_case (Some k) = real_key k

real_version : (o : Option ℕ) → IsReal (version_or_bad o)
real_version None = real_key _
real_version (Some n) = real_if (is_version n) (Ok n) (Err (BadKey (codes "version"))) (real_ok n) (real_key _)

real_name : (o : Option (List ℕ)) → IsReal (name_or_bad o)
real_name None = real_key _
real_name (Some s) = real_if (is_name s) (Ok s) (Err (BadKey (codes "name"))) (real_ok s) (real_key _)

real_subsystem : (o : Option ℕ) → IsReal (subsystem_or_bad o)
real_subsystem None = real_key _
real_subsystem (Some n) = real_if (nat_lt n 8) (Ok n) (Err (BadKey (codes "subsystem"))) (real_ok n) (real_key _)

real_verb : (q : ℕ) (o : Option Verb) → IsReal (verb_or_bad q o)
real_verb q None = real_key _
real_verb q (Some v) = real_if (takes q v) (Ok v) (Err (BadKey (codes "verb"))) (real_ok v) (real_key _)

abbrev pair_with : ℕ → ℕ → Mode → Pair
pair_with a b mode = record { first = a; second = b; mode = mode }

abbrev op_with : List ℕ → ℕ → Verb → Op
op_with name q v = record { name = name; subsystem = q; verb = v }

abbrev new_op : List Op → List ℕ → ℕ → Verb → Said Op
new_op earlier name q v = cond (has_name name earlier) (Err (SameOp name)) (Ok (op_with name q v))

real_new : (earlier : List Op) (name : List ℕ) (q : ℕ) (v : Verb) → IsReal (new_op earlier name q v)
real_new earlier name q v = real_if (has_name name earlier) (Err (SameOp name)) (Ok (op_with name q v)) (record { real = λ e. cc }) (real_ok (op_with name q v))

real_op : (earlier : List Op) (ms : Members) → IsReal (op_said earlier ms)
unfolding op_said
real_op earlier ms =
    real_then (known_keys OfOperation ms) (λ known. name_said ms >>= λ name. subsystem_said ms >>= λ q. verb_said q ms >>= λ v. new_op earlier name q v) (real_keys OfOperation ms)
    (λ known. real_then (name_said ms) (λ name. subsystem_said ms >>= λ q. verb_said q ms >>= λ v. new_op earlier name q v) (real_name (text_at (codes "name") ms))
    (λ name. real_then (subsystem_said ms) (λ q. verb_said q ms >>= λ v. new_op earlier name q v) (real_subsystem (number_at (codes "subsystem") ms))
    (λ q. real_then (verb_said q ms) (λ v. new_op earlier name q v) (real_verb q (option_and_then verb_named (text_at (codes "verb") ms))) (λ v. real_new earlier name q v))))

real_table : (earlier : List Op) (o : Option Members) → IsReal (table_said earlier o)
real_table earlier None = real_key _
real_table earlier (Some t) = real_op earlier t

real_ops : (earlier : List Op) (ds : Items) → IsReal (ops_said earlier ds)
unfolding ops_said
real_ops earlier no_items = real_ok earlier
real_ops earlier (item d ds) = real_then (table_said earlier (as_table d)) (λ op. ops_said (earlier ++ op ∷ []) ds) (real_table earlier (as_table d)) (λ op. real_ops (earlier ++ op ∷ []) ds)

real_few : (ds : Items) → IsReal (few_said ds)
unfolding few_said
real_few ds = real_if (nat_lt 256 (items_length ds)) (Err (Ops (items_length ds))) (ops_said [] ds) (record { real = λ e. cc }) (real_ops [] ds)

real_tables : (o : Option Items) → IsReal (tables_or_bad o)
real_tables None = real_key _
real_tables (Some ds) = real_if (are_tables ds) (few_said ds) (Err (BadKey (codes "op"))) (real_few ds) (real_key _)

real_operations : (o : Option Data) → IsReal (operations_by_key o)
real_operations None = real_ok []
real_operations (Some d) = real_tables (as_array d)

real_number : (name : List ℕ) (o : Option ℕ) → IsReal (number_or_unknown name o)
real_number name None = record { real = λ e. cc }
real_number name (Some n) = real_ok n

real_pair : (ops : List Op) (o : Option NamedPair) → IsReal (pair_said ops o)
real_pair ops None = real_key _
real_pair ops (Some p) =
    real_then (number_said ops p.0) (λ a. number_said ops p.1 >>= λ b. Ok (pair_with a b p.2)) (real_number p.0 (number_of ops p.0))
    (λ a. real_then (number_said ops p.1) (λ b. Ok (pair_with a b p.2)) (real_number p.1 (number_of ops p.1)) (λ b. real_ok (pair_with a b p.2)))

real_pairs : (version : ℕ) (ops : List Op) (done : List Pair) (ds : Items) → IsReal (pairs_said version ops done ds)
unfolding pairs_said
real_pairs version ops done no_items = real_ok done
real_pairs version ops done (item d ds) = real_then (pair_said ops (pair_in version d)) (λ pair. pairs_said version ops (done ++ pair ∷ []) ds) (real_pair ops (pair_in version d)) (λ pair. real_pairs version ops (done ++ pair ∷ []) ds)

real_agreeing : (ops : List Op) (ps : List Pair) → IsReal (table_or_bad ops ps)
real_agreeing ops ps = real_if (some_disagree ps) (Err (BadKey (codes "conflicts"))) (Ok (with_pairs (no_conflicts (length ops)) ps)) (real_key _) (real_ok (with_pairs (no_conflicts (length ops)) ps))

real_items : (version : ℕ) (ops : List Op) (ds : Items) → IsReal (table_of_items version ops ds)
unfolding table_of_items
real_items version ops ds = real_then (pairs_said version ops [] ds) (table_or_bad ops) (real_pairs version ops [] ds) (real_agreeing ops)

real_array : (version : ℕ) (ops : List Op) (o : Option Items) → IsReal (pairs_or_bad version ops o)
real_array version ops None = real_key _
real_array version ops (Some ds) = real_if (are_pairs version ds) (table_of_items version ops ds) (Err (BadKey (codes "conflicts"))) (real_items version ops ds) (real_key _)

real_conflicts : (version : ℕ) (ops : List Op) (o : Option Data) → IsReal (conflicts_by_key version ops o)
real_conflicts version ops None = real_ok (no_conflicts (length ops))
real_conflicts version ops (Some d) = real_array version ops (as_array d)

real_text : (o : Option (List ℕ)) → IsReal (text_or_bad o)
real_text None = real_key _
real_text (Some s) = real_ok s

real_processes : (o : Option Data) → IsReal (processes_by_key o)
real_processes None = real_ok []
real_processes (Some d) = real_text (as_str d)

real_catalog : (ms : Members) → IsReal (catalog_said ms)
unfolding catalog_said operations_said conflicts_said
real_catalog ms =
    real_then (known_keys OfDocument ms) _ (real_keys OfDocument ms)
    (λ known. real_then (version_said ms) _ (real_version (number_at (codes "version") ms))
    (λ version. real_then (operations_said ms) _ (real_operations (get_member (codes "op") ms))
    (λ ops. real_then (conflicts_said version ops ms) _ (real_conflicts version ops (get_member (codes "conflicts") ms)) (λ conflicts. real_ok _))))

real_scenario : (ms : Members) → IsReal (scenario_said ms)
unfolding scenario_said processes_said
real_scenario ms = real_then (catalog_said ms) _ (real_catalog ms) (λ catalog. real_then (processes_said ms) _ (real_processes (get_member (codes "processes") ms)) (λ text. real_ok _))

-- what the table of a document says is the answer
pub is_answer : (bytes : List ℕ) (t : Members) (r : Result Scenario ScenarioError) → IsUtf8 bytes → parse_document bytes ≡ Some t → Gives r (scenario_said t) → IsAnswer bytes r
is_answer bytes t (Ok s) utf8 e h = (t, utf8, e, h)
is_answer bytes t (Err BadToml) utf8 e h = absurd ((real_scenario t).real h)
is_answer bytes t (Err (BadKey k)) utf8 e h = (t, utf8, e, h)
is_answer bytes t (Err (UnknownOp name)) utf8 e h = (t, utf8, e, h)
is_answer bytes t (Err (SameOp name)) utf8 e h = (t, utf8, e, h)
is_answer bytes t (Err (Ops n)) utf8 e h = (t, utf8, e, h)
is_answer bytes t (Err NoMemory) utf8 e h = tt
