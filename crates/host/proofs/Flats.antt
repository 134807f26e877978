-- The flat calls, path by path: what each check refuses, and what the call itself leaves. Assumes nothing.
use mathlib.Core.Path.{◌≡◌, refl, sym, ap, ◌∙◌}
use mathlib.Core.Bool.{Bool, true, false, cond}
use mathlib.Core.List.{List, [], ◌∷◌, ◌++◌}
use Prim.Native.Nat.{ℕ, ◌-◌, ◌≤◌, ◌<◌}
use native.Mathlib.Omega.{arith}
use lib.Ieee.{Float}
use lib.ListN.{length, set, take, drop}
use lib.Seq.{sets-eq}
use borrow.Author.Tests.{le-leb, lt-leb}
use Rattle.laws.specs.Stores.{fronted}
use Rattle.laws.proofs.Parts.{lent_from}
use Rattle.refusal.specs.Table.{number_of}
use Rattle.std.specs.Prelude.{Option, None, Some, Result, Ok, Err}
use Rattle.refusal.specs.Answers.{Outcome, made, counted}
use Rattle.refusal.specs.declared.Refusal.{Refusal}
use Rattle.refusal.specs.declared.Refusal.TheVariants.{UnfitHead, ShortOutput}
use Rattle.head.specs.declared.Head.{Head}
use Rattle.head.specs.Numbers.{head_of, numbers_of}
use Rattle.run.specs.Stores.{Stores}
use Rattle.build.specs.Build.{BuildEnd, built_of, build_call}
use Rattle.finding.specs.declared.Place.{Place}
use Rattle.finding.specs.Find.{Answer, answer_of}
use Rattle.lookup.specs.Lookup.{lookup_call}
use Rattle.rows.specs.Rows.{RowStores, row_stores, rows_call}
use Rattle.image.specs.Image.{ReadAfter, read_of, write_call, read_call}
use Rattle.host.specs.Numbers.{refused_number, of_made, of_counted, value_in}
use Rattle.host.specs.Flat.{seen, is_head, head_lent, out_places, place_places, answer_seen, flat_lookup, flat_rows, flat_built, head_made, end_seen, flat_build, flat_loaded, read_seen, flat_read, flat_write}
use Rattle.host.proofs.Answers.{told-seen}

-- ---- the head that a host lends

module _ (ns : List ℕ) where
  pub unheaded : None ≡ head_lent ns → is_head ns ≡ false
  unfolding head_lent
  unheaded e = go (is_head ns) refl e
    where
      go : (b : Bool) → is_head ns ≡ b → None ≡ cond b (Some (head_of ns)) None → is_head ns ≡ false
      go true f g = let z : ◌≡◌ {A = ℕ} 0 1 = cc in absurd (omega arith)
      go false f g = f

  pub headed : {head : Head} → Some head ≡ head_lent ns → (is_head ns ≡ true) × (head ≡ head_of ns)
  unfolding head_lent
  headed {head} e = go (is_head ns) refl e
    where
      go : (b : Bool) → is_head ns ≡ b → Some head ≡ cond b (Some (head_of ns)) None → (is_head ns ≡ true) × (head ≡ head_of ns)
      go true f g = (f, cc)
      go false f g = let z : ◌≡◌ {A = ℕ} 0 1 = cc in absurd (omega arith)

-- ---- a row list

module _ (head ws ss ids rows marks : List ℕ) where
  pub rows_unheaded : {n : ℕ} → None ≡ head_lent head → n ≡ refused_number (number_of UnfitHead)
      → seen n (row_stores rows marks) ≡ flat_rows head ws ss ids rows marks
  unfolding flat_rows
  rows_unheaded h e = rw (unheaded head h, e)

  pub rows_headed : {n : ℕ} {lent : Head} {after : RowStores} (answer : Result Unit Refusal) → Some lent ≡ head_lent head → n ≡ of_made answer
      → made answer after ≡ rows_call lent ws ss ids rows marks → seen n after ≡ flat_rows head ws ss ids rows marks
  unfolding flat_rows
  rows_headed answer h e f =
      rw (headed head h).0 (told-seen (λ _. 0) answer e (f ∙ ap (λ (it : Head). rows_call it ws ss ids rows marks) (headed head h).1))

-- ---- a lookup

module _ (head ws ss : List ℕ) (x : ℕ) (place : List ℕ) where
  pub lookup_short : {n : ℕ} → length place < place_places → n ≡ refused_number (number_of ShortOutput) → seen n place ≡ flat_lookup head ws ss x place
  unfolding flat_lookup
  lookup_short h e = rw (lt-leb place_places (length place) h, e)

  pub lookup_unheaded : {n : ℕ} → place_places ≤ length place → None ≡ head_lent head → n ≡ refused_number (number_of UnfitHead)
      → seen n place ≡ flat_lookup head ws ss x place
  unfolding flat_lookup
  lookup_unheaded h k e = rw (le-leb place_places (length place) h, unheaded head k, e)

  pub lookup_headed : {n : ℕ} {lent : Head} {place' : List ℕ} (found : Result (Option Place) Refusal) → place_places ≤ length place → Some lent ≡ head_lent head
      → answer_of found ≡ lookup_call lent ws ss x → seen n place' ≡ answer_seen (answer_of found) place → seen n place' ≡ flat_lookup head ws ss x place
  unfolding flat_lookup
  lookup_headed found h k e f =
      rw (le-leb place_places (length place) h, (headed head k).0)
      (f ∙ ap (λ (a : Answer). answer_seen a place) (e ∙ ap (λ (it : Head). lookup_call it ws ss x) (headed head k).1))

-- the place of a row is written to the front
pub place_written : {found : Result (Option Place) Refusal} (p : Place) (place : List ℕ) → place_places ≤ length place → found ≡ Ok (Some p)
    → seen p.row (set (set place 0 p.level) 1 p.position) ≡ answer_seen (answer_of found) place
place_written p place h e =
    ap (seen p.row) (sets-eq (p.level ∷ p.position ∷ []) place 0 h) ∙ ap (λ (f : Result (Option Place) Refusal). answer_seen (answer_of f) place) (sym e)

-- ---- a build

made_end : (answer : Result Head Refusal) (s : Stores) (out : List ℕ)
    → seen (of_made answer) (flat_built s (fronted (value_in answer ∷ numbers_of (head_made answer)) out)) ≡ end_seen (built_of answer s) out
made_end (Ok head) s out = refl
made_end (Err r) s out = refl

module _ (number : ℕ) (gamma : Float) (ids : List ℕ) (s : Stores) (out : List ℕ) where
  pub build_short : {n : ℕ} → length out < out_places → n ≡ refused_number (number_of ShortOutput) → seen n (flat_built s out) ≡ flat_build number gamma ids s out
  unfolding flat_build
  build_short h e = rw (lt-leb out_places (length out) h, e)

  pub build_asked : {n : ℕ} {out' : List ℕ} (answer : Result Head Refusal) (after : Stores) → out_places ≤ length out → n ≡ of_made answer
      → built_of answer after ≡ build_call number gamma ids s
      → out' ≡ fronted (value_in answer ∷ numbers_of (head_made answer)) out → seen n (flat_built after out') ≡ flat_build number gamma ids s out
  unfolding flat_build
  build_asked answer after h e f w =
      rw (le-leb out_places (length out) h, w, e) (made_end answer after out ∙ ap (λ (b : BuildEnd). end_seen b out) f)

-- ---- an image

module _ (head ws ss image : List ℕ) where
  pub write_unheaded : {n : ℕ} → None ≡ head_lent head → n ≡ refused_number (number_of UnfitHead) → seen n image ≡ flat_write head ws ss image
  unfolding flat_write
  write_unheaded h e = rw (unheaded head h, e)

  pub write_headed : {n : ℕ} {lent : Head} {after : List ℕ} (answer : Result ℕ Refusal) → Some lent ≡ head_lent head → n ≡ of_counted answer
      → counted answer after ≡ write_call lent ws ss image → seen n after ≡ flat_write head ws ss image
  unfolding flat_write
  write_headed answer h e f = rw (headed head h).0 (told-seen (λ n. n) answer e (f ∙ ap (λ (it : Head). write_call it ws ss image) (headed head h).1))

made_read : (answer : Result Head Refusal) (ws ss out : List ℕ)
    → seen (of_made answer) (flat_loaded ws ss (fronted (value_in answer ∷ numbers_of (head_made answer)) out)) ≡ read_seen (read_of answer ws ss) out
made_read (Ok head) ws ss out = refl
made_read (Err r) ws ss out = refl

module _ (image ws ss out : List ℕ) where
  pub read_short : {n : ℕ} → length out < out_places → n ≡ refused_number (number_of ShortOutput) → seen n (flat_loaded ws ss out) ≡ flat_read image ws ss out
  unfolding flat_read
  read_short h e = rw (lt-leb out_places (length out) h, e)

  pub read_asked : {n : ℕ} {out' : List ℕ} (answer : Result Head Refusal) (us vs : List ℕ) → out_places ≤ length out → n ≡ of_made answer
      → read_of answer us vs ≡ read_call image ws ss → out' ≡ fronted (value_in answer ∷ numbers_of (head_made answer)) out
      → seen n (flat_loaded us vs out') ≡ flat_read image ws ss out
  unfolding flat_read
  read_asked answer us vs h e f w =
      rw (le-leb out_places (length out) h, w, e) (made_read answer us vs out ∙ ap (λ (b : Outcome ReadAfter). read_seen b out) f)
