-- The keys of short names compare as their words do.
-- Serves `short::drop_hidden`, `short::store`, and what `Both`, `ListedFronts` serve.
use Rattle.std.proofs.Common.{◌≡◌, Bool, ap, refl}
use Rattle.std.proofs.Math.Path.{fun_ext}
use Rattle.std.specs.declared.cmp.Ordering.{Ordering}
use Rattle.std.specs.declared.cmp.Ordering.TheVariants.{Less, Equal, Greater}
use Rattle.std.specs.Ordering.{nat_cmp, ordering_then, is_eq}
use Rattle.fleet_observe.specs.Preference.{octets_cmp}
use Rattle.fleet_cache.specs.declared.words.ShortKey.{ShortKey}
use Rattle.fleet_cache.specs.steps.Packed.{short_words}

-- word by word
abbrev pub field_cmp : ShortKey → ShortKey → Ordering
field_cmp x y =
    ordering_then (nat_cmp x.a y.a) (ordering_then (nat_cmp x.b y.b)
    (ordering_then (nat_cmp x.c y.c) (nat_cmp x.d y.d)))

then_equal : (o : Ordering) → o ≡ ordering_then o Equal
then_equal Less = refl
then_equal Equal = refl
then_equal Greater = refl

pub same_cmp : (x y : ShortKey) → field_cmp x y ≡ octets_cmp (short_words x) (short_words y)
same_cmp x y = ap (λ v. ordering_then (nat_cmp x.a y.a) (ordering_then (nat_cmp x.b y.b)
    (ordering_then (nat_cmp x.c y.c) v))) (then_equal (nat_cmp x.d y.d))

pub same_order : field_cmp ≡ (λ x y. octets_cmp (short_words x) (short_words y))
same_order = fun_ext (λ x. fun_ext (same_cmp x))

pub same_test : (q : ShortKey) → ◌≡◌ {A = ShortKey → Bool} (λ k. is_eq (field_cmp q k))
    (λ k. is_eq (octets_cmp (short_words q) (short_words k)))
same_test q = fun_ext (λ k. ap is_eq (same_cmp q k))
