-- What names no order.
use Rattle.std.proofs.Common.{◌≡◌, ◌≢◌, Bool, true, false, inl, List, [], Option, Some, None, ℕ, IfNone, Result, Ok, Err, IfErr, refl, ap, ◌∙◌, codes, bytes_eq}
use Rattle.std.specs.Result.{IsErrAnd}
use Rattle.std.proofs.lemmas.Bool.Decides.{not_from_Decides}
use Rattle.std.proofs.lemmas.Slice.Eq.{bytes_eq-Decides}
use Rattle.clap.specs.Words.{Row, Text, first_of, kind_of, takes}
use Rattle.clap.specs.declared.error.Error.{Error}
use Rattle.clap.specs.declared.error.kind.ErrorKind.{ErrorKind}
use Rattle.clap.specs.declared.error.kind.ErrorKind.TheVariants.{OutOfMemory}
use Rattle.command_line.specs.declared.order.Order.TheVariants.{Run, Serve, Import, Report, Verify}
use Rattle.stream_server.specs.declared.interface.Interface.{Interface}
use Rattle.command_line.specs.Orders.{AreRefused, IsImport, IsReport, IsVerify, NamesOrder, NamesSetup, interface_word, number_in_range, program_app}

-- no value is given
pub no_value : {A : Type 0} (found : Option A) (value : A) → None ≡ found → found ≡ Some value → ⊥
no_value found value none some = let missed : None ≡ Some value = none ∙ some in cc

-- the interface is none that is served
pub unknown_interface : (rows : List Row) (word : Text) → Some word ≡ first_of (codes "interface") rows
    → ((interface : Interface) → word ≢ interface_word interface) → ¬ NamesSetup rows
unknown_interface rows word given other (setup, is) =
    let same : Some word ≡ Some (interface_word setup.interface) = given ∙ is.interface_is in
    let word_is : word ≡ interface_word setup.interface = cc in
    other setup.interface word_is

-- the values of a subcommand
abbrev pub values_of : Option (Text × List Row) → List Row
values_of (Some found) = found.1
values_of None = []

-- its name
abbrev name_of : Option (Text × List Row) → Text
name_of (Some found) = found.0
name_of None = []

-- a subcommand of this name, with these values
abbrev met : Text → List Row → Option (Text × List Row)
met name rows = Some (name, rows)

-- another name than the order's
other_name : (name other : Text) (rows more : List Row) → bytes_eq name other ≡ false → met name rows ≡ met other more → ⊥
other_name name other rows more apart same = not_from_Decides (bytes_eq name other) (bytes_eq-Decides name other) apart (ap name_of same)

-- the connections are no number in the range
pub no_connections : (rows : List Row) → None ≡ number_in_range 1 1000000 (first_of (codes "connections") rows) → ¬ NamesOrder (Some (codes "serve", rows))
no_connections rows none (Serve setup port connections, serve) =
    no_value _ connections none (ap (λ found. number_in_range 1 1000000 (first_of (codes "connections") (values_of found))) serve.subcommand
    ∙ serve.connections_is)
no_connections rows none (Run setup, is) = other_name (codes "serve") (codes "run") rows is.rows refl is.subcommand
no_connections rows none (Import db file, is) = other_name (codes "serve") (codes "import") rows is.rows refl is.subcommand
no_connections rows none (Report db rollout, is) = other_name (codes "serve") (codes "report") rows is.rows refl is.subcommand
no_connections rows none (Verify db, is) = other_name (codes "serve") (codes "verify") rows is.rows refl is.subcommand

-- the values of `import` name no order where they aren't a database and a file
pub no_import : (rows : List Row) → ((db file : Text) → ¬ IsImport (Some (codes "import", rows)) db file) → ¬ NamesOrder (Some (codes "import", rows))
no_import rows never (Import db file, is) = never db.now file.now is
no_import rows never (Run setup, is) = other_name (codes "import") (codes "run") rows is.rows refl is.subcommand
no_import rows never (Serve setup port connections, is) = other_name (codes "import") (codes "serve") rows is.rows refl is.subcommand
no_import rows never (Report db rollout, is) = other_name (codes "import") (codes "report") rows is.rows refl is.subcommand
no_import rows never (Verify db, is) = other_name (codes "import") (codes "verify") rows is.rows refl is.subcommand

-- the values of `report` name no order where they aren't a database and a rollout's number
pub no_report : (rows : List Row) → ((db : Text) (rollout : ℕ) → ¬ IsReport (Some (codes "report", rows)) db rollout)
    → ¬ NamesOrder (Some (codes "report", rows))
no_report rows never (Report db rollout, is) = never db.now rollout is
no_report rows never (Run setup, is) = other_name (codes "report") (codes "run") rows is.rows refl is.subcommand
no_report rows never (Serve setup port connections, is) = other_name (codes "report") (codes "serve") rows is.rows refl is.subcommand
no_report rows never (Import db file, is) = other_name (codes "report") (codes "import") rows is.rows refl is.subcommand
no_report rows never (Verify db, is) = other_name (codes "report") (codes "verify") rows is.rows refl is.subcommand

-- the values of `verify` name no order where they aren't a database
pub no_verify : (rows : List Row) → ((db : Text) → ¬ IsVerify (Some (codes "verify", rows)) db) → ¬ NamesOrder (Some (codes "verify", rows))
no_verify rows never (Verify db, is) = never db.now is
no_verify rows never (Run setup, is) = other_name (codes "verify") (codes "run") rows is.rows refl is.subcommand
no_verify rows never (Serve setup port connections, is) = other_name (codes "verify") (codes "serve") rows is.rows refl is.subcommand
no_verify rows never (Import db file, is) = other_name (codes "verify") (codes "import") rows is.rows refl is.subcommand
no_verify rows never (Report db rollout, is) = other_name (codes "verify") (codes "report") rows is.rows refl is.subcommand

-- words that `clap` takes are refused for want of memory alone
pub refused_by_clap : (words : List Text) (kind : ErrorKind) → (takes program_app words ≡ true → kind ≡ OutOfMemory) → kind ≢ OutOfMemory
    → AreRefused words
refused_by_clap words kind passes other = inl (go (takes program_app words) (λ taken. other (passes taken)))
  where
    go : (b : Bool) → ¬ (b ≡ true) → b ≡ false
    go true never = absurd (never refl)
    go false never = refl

pub where_none : {A : Type 0} {P : Type 0} (o : Option A) → P → IfNone o P
where_none None p = p
where_none (Some x) p = tt

-- an error of `clap`'s that is handed on
pub where_clap_refuses : {A : Type 0} (words : List Text) (error : Error) → (takes program_app words ≡ true → kind_of error ≡ OutOfMemory)
    → (r : Result A Error) → IsErrAnd r (λ e. e ≡ error) → IfErr r (λ e. kind_of e ≢ OutOfMemory → AreRefused words)
where_clap_refuses words error passes (Ok x) same = tt
where_clap_refuses words error passes (Err e) same = refused_by_clap words (kind_of e) (λ taken. ap kind_of same ∙ passes taken)

-- want of memory
pub where_no_memory : {A : Type 0} (words : List Text) (r : Result A Error) → IsErrAnd r (λ e. kind_of e ≡ OutOfMemory)
    → IfErr r (λ e. kind_of e ≢ OutOfMemory → AreRefused words)
where_no_memory words (Ok x) is = tt
where_no_memory words (Err e) is = λ other. absurd (other is)
