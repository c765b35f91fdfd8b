-- A table record made of defaults is the empty one, which stands for a file that is refused by its head.
use Rattle.std.proofs.Common.{ℕ, ◌<◌, ◌≡◌, sym, ◌∙◌, List, replicate, Result, Ok, Err, IfOk, eq-eqb, ne_eqb, arith}
use Rattle.std.proofs.lemmas.List.{same_lists, length-replicate, get_or-replicate}
use Rattle.std.specs.Array.{AllOfLen}
use Rattle.std.specs.Result.{ResultUnwrapsOrElse}
use Rattle.rules.specs.declared.Table.{Table}
use Rattle.rules.specs.declared.Segment.{Segment}
use Rattle.rules.specs.declared.BoxPlan.{BoxPlan}
use Rattle.rules.specs.declared.TrainPlan.{TrainPlan}
use Rattle.rules.specs.Track.{no_segment, no_box_plan, no_train_plan}
use Rattle.rules.specs.Placing.{without_place}
use Rattle.rules.specs.File.{decode}
use Rattle.rules.specs.Line.{empty_table}
use Rattle.rules.specs.declared.errors.FileError.{FileError}
use Rattle.rules.specs.Errors.{refused}
use Rattle.rules.proofs.Coded.{file_coded}
use Rattle.rules.proofs.Refusals.{code_of}
use Rattle.tablefile.specs.Whole.{early_code, table_in}

-- What the derived default of a table says.
abbrev IsDefault : Table → Type 0
IsDefault t =
    (t.version ≡ 0) × ((t.n ≡ 0) × ((t.m ≡ 0) × ((t.k ≡ 0)
    × (AllOfLen (λ (s : Segment). (s.a ≡ 0) × ((s.b ≡ 0) × (s.way ≡ 0))) t.segments 96
    × (AllOfLen (λ (b : BoxPlan). (b.kind ≡ 0) × ((b.stem ≡ 0) × ((b.left ≡ 0) × ((b.right ≡ 0) × (b.position ≡ 0))))) t.boxes 96
    × (AllOfLen (λ (p : TrainPlan). (p.direction ≡ 0) × (p.length ≡ 0)) t.trains 16
    × AllOfLen (λ (x : ℕ). x ≡ 0) t.routes 1024))))))

all_one : {A : Type 0} {P : A → Type 0} {xs : List A} {n : ℕ} → (d : A) → AllOfLen P xs n → ((x : A) → P x → x ≡ d) → xs ≡ replicate n d
all_one {xs = xs} {n = n} d h one =
    same_lists xs (replicate n d) (h.long ∙ sym (length-replicate n d)) (λ i e low.
    let below : i < n = omega (arith, h.long) in
    one _ (h.at i e below) ∙ sym (get_or-replicate n i d e below))

-- Records by their fields.
segment_of : (a b way : ℕ) → a ≡ 0 → b ≡ 0 → way ≡ 0 → record { a = a; b = b; way = way } ≡ no_segment
segment_of a b way p q r = rw (p, q, r)

plan_of : (kind stem left right position : ℕ) → kind ≡ 0 → stem ≡ 0 → left ≡ 0 → right ≡ 0 → position ≡ 0
    → record { kind = kind; stem = stem; left = left; right = right; position = position } ≡ no_box_plan
plan_of kind stem left right position p q r s t = rw (p, q, r, s, t)

train_plan_of : (direction length : ℕ) → direction ≡ 0 → length ≡ 0 → record { direction = direction; length = length } ≡ no_train_plan
train_plan_of direction length p q = rw (p, q)

table_of : (version n m k : ℕ) (segments : List Segment) (boxes : List BoxPlan) (trains : List TrainPlan) (routes : List ℕ)
    → version ≡ 0 → n ≡ 0 → m ≡ 0 → k ≡ 0
    → segments ≡ replicate 96 no_segment → boxes ≡ replicate 96 no_box_plan → trains ≡ replicate 16 no_train_plan → routes ≡ replicate 1024 0
    → record { version = version; n = n; m = m; k = k; segments = segments; boxes = boxes; trains = trains; routes = routes } ≡ empty_table
unfolding empty_table
table_of version n m k segments boxes trains routes p q r s t u v w = rw (p, q, r, s, t, u, v, w)

default_empty : (t : Table) → IsDefault t → t ≡ empty_table
default_empty t (version, (n, (m, (k, (segments, (boxes, (trains, routes))))))) =
    table_of _ _ _ _ _ _ _ _ version n m k
    (all_one no_segment segments (λ _ (a, (b, way)). segment_of _ _ _ a b way))
    (all_one no_box_plan boxes (λ _ (kind, (stem, (left, (right, position)))). plan_of _ _ _ _ _ kind stem left right position))
    (all_one no_train_plan trains (λ _ (direction, length). train_plan_of _ _ direction length))
    (all_one 0 routes (λ _ e. e))

-- What is read of a file's head, or the default where it is refused.
pub table_read : (bytes : List ℕ) (r : Result Table FileError) (t : Table) → refused r ≡ without_place (early_code bytes)
    → IfOk r (λ t. t ≡ decode bytes) → ResultUnwrapsOrElse r IsDefault t → t ≡ table_in bytes
unfolding table_in
table_read bytes (Ok x) t z read is = rw (eq-eqb _ _ (sym (code_of z))) (is ∙ read)
table_read bytes (Err e) t z read is = rw (ne_eqb _ 0 (λ none. file_coded e (code_of z ∙ none))) (default_empty t is)
