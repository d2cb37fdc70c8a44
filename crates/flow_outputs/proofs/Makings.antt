-- Files that are made one after another.
use Rattle.std.proofs.Common.{◌≡◌, ◌++◌, ◌∷◌, [], ◌∙◌, List, ℕ, Bool, true, false, ap, sym, subst, map, refl, append_assoc, arith, ◌-◌, length, length-append}
use Rattle.std.proofs.lemmas.List.{map-append}
use Rattle.ds_port.specs.Causes.{HasCause}
use Rattle.ds_port.specs.FileMap.{FileMap, with_file}
use Rattle.flow_outputs.specs.Outputs.{NamedFile, with_files, MakesSome, Makes}

with_more : (files : FileMap) (fs : List NamedFile) (f : NamedFile) → with_files files (fs ++ f ∷ []) ≡ with_file (with_files files fs) (f.0) (f.1)
with_more files [] f = refl
with_more files (g ∷ fs) f = with_more (with_file files (g.0) (g.1)) fs f

-- what a step from `mid` to `new` does, where `failed` says whether one failed before it and `now` whether one has failed then
pub record Step (tells : Type 0) (mid new : FileMap) (failed now : Bool) (f : NamedFile) : Type 0 where
  pub kept : failed ≡ true → new ≡ mid
  pub fails : failed ≡ true → now ≡ true
  pub stays : failed ≡ false → now ≡ true → new ≡ mid
  pub made : tells → failed ≡ false → now ≡ false → new ≡ with_files mid (f ∷ [])

pub none_made : (tells : Type 0) (old : FileMap) → Makes tells old old false []
none_made tells old = record { ok = λ t e. refl; err = λ t e. absurd (grind (arith, e)) }

pub makes_more : (tells : Type 0) (old mid new : FileMap) (failed now : Bool) (fs : List NamedFile) (f : NamedFile) → Makes tells old mid failed fs → Step tells mid new failed now f → Makes tells old new now (fs ++ f ∷ [])
makes_more tells old mid new true now fs f h s = record { ok = λ t e. absurd (grind (arith, e, s.fails refl)); err = λ t e. longer (h.err t refl) }
  where
    longer : MakesSome old mid fs → MakesSome old new (fs ++ f ∷ [])
    longer m = record { made = m.made; failed = m.failed; behind = m.behind ++ f ∷ []; all_are = ap (λ xs. xs ++ f ∷ []) m.all_are ∙ append_assoc m.made (m.failed ∷ m.behind) (f ∷ []); files = s.kept refl ∙ m.files }
makes_more tells old mid new false now fs f h s = record {
  ok = λ t e. s.made t refl e ∙ ap (λ m. with_file m (f.0) (f.1)) (h.ok t refl) ∙ sym (with_more old fs f);
  err = λ t e. record { made = fs; failed = f; behind = []; all_are = refl; files = s.stays refl e ∙ h.ok t refl };
}

pub makes_next : {X : Type 0} (file : X → NamedFile) (tells : Type 0) (old mid new : FileMap) (failed now : Bool) (xs : List X) (x : X) → Makes tells old mid failed (map file xs) → Step tells mid new failed now (file x) → Makes tells old new now (map file (xs ++ x ∷ []))
makes_next file tells old mid new failed now xs x h s = subst (Makes tells old new now) (sym (map-append file xs (x ∷ []))) (makes_more tells old mid new failed now (map file xs) (file x) h s)

pub cause_next : (a b c : ℕ) (failed now : Bool) → HasCause a b (failed ≡ true) → HasCause b c ((failed ≡ false) × (now ≡ true)) → HasCause a c (now ≡ true)
cause_next a b c true now h k = record { later = grind (arith, h.later, k.later); rose = λ e. grind (arith, h.rose refl, k.later) }
cause_next a b c false now h k = record { later = grind (arith, h.later, k.later); rose = λ e. grind (arith, h.later, k.rose (refl, e)) }

-- one more came back
pub returned_next : {X : Type 0} (old mid new : ℕ) (xs : List X) (x : X) → mid ≡ old - length xs → new ≡ mid - 1 → new ≡ old - length (xs ++ x ∷ [])
returned_next old mid new xs x h k = omega (arith, h, k, length-append xs (x ∷ []))
