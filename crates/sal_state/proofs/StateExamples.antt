-- Digests of whole states, computed; the values are an independent program's.
use Rattle.std.proofs.Common.{◌≡◌, ◌++◌, pos, negsuc, [], ◌∷◌, true, false, Some, refl, replicate, slice_set}
use Rattle.sal_base.specs.declared.picture.Planes.{Planes}
use Rattle.sal_base.specs.Pictures.{plane}
use Rattle.sal_bool.specs.Written.{be_bytes}
use Rattle.sal_state.specs.States.{StateData}
use Rattle.sal_tables.specs.Tables.{default_coefficients_of, default_rows, default_vectors_of, inter_y_probabilities_of, inter_chroma_probabilities_of}
use Rattle.sal_probs.specs.Probabilities.{initial_table}
use Rattle.sal_state.specs.Digest.{digest_of, planes_digest, state_bytes}
use Rattle.sal_state.specs.States.{initial_kept}
use Rattle.sha2.specs.Sha256.{sha256, digest_bytes, hash_after, compress, rounds, schedule, first_words}

-- after a key frame of zeros
first_planes : Planes
first_planes = record { y = plane 16 16 (replicate 64 128 ++ replicate 192 129); u = plane 8 8 (replicate 64 128); v = plane 8 8 (replicate 64 128) }

first_state : StateData
first_state = record { kept = record initial_kept { map = replicate 1 0 }; references = Some (record { width = 16; height = 16; last = first_planes; golden = first_planes; alt = first_planes }) }

first_digest : digest_of first_state ≡ be_bytes 32 0xf545c7224dfdcf15aa3a196d1ef400198c510919d1ee9c9df57e35befdb32db2
unfolding first_state first_planes initial_kept digest_of planes_digest state_bytes sha256 digest_bytes hash_after compress rounds schedule first_words initial_table default_coefficients_of default_rows default_vectors_of inter_y_probabilities_of inter_chroma_probabilities_of
first_digest = refl

-- after frames that changed probabilities, segments, deltas, sign biases and each reference
golden_planes : Planes
golden_planes = record {
  y = plane 16 16 (
      be_bytes 16 0x80807f7e7d7c7c7d7e7f818284858686
      ++ be_bytes 16 0x808081828485858482817f7e7d7c7b7b
      ++ be_bytes 16 0x808081828485858482817f7e7d7c7b7b
      ++ be_bytes 16 0x80807f7e7d7c7c7d7e7f818284858686
      ++ be_bytes 16 0x90968e7e87837d798e8a8480777c848a
      ++ be_bytes 16 0x7c84817487837d798a86807c7c7e8284
      ++ be_bytes 16 0x6e7c7f7685827e7c84807a7684827f7c
      ++ be_bytes 16 0x7080888282817f7e807c767289847c77
      ++ be_bytes 16 0x808080807e7f81828686868686868686
      ++ be_bytes 16 0x808080807b7e82847b7b7b7b7b7b7b7b
      ++ be_bytes 16 0x80808080797d83877b7b7b7b7b7b7b7b
      ++ be_bytes 16 0x80808080797d83878686868686868686
      ++ be_bytes 16 0x80808080798787799087797087837d79
      ++ be_bytes 16 0x808080807d83837d8b857c7587837d79
      ++ be_bytes 16 0x80808080837d7d8383817f7d87837d79
      ++ be_bytes 16 0x80808080877979877e7f818287837d79);
  u = plane 8 8 (be_bytes 64 0x80808080808080808080808080808080808080808080808080808080808080808080808080808080808080808080808080808080808080808080808080808080);
  v = plane 8 8 (be_bytes 64 0x80808080808080808080808080808080808080808080808080808080808080808080808080808080808080808080808080808080808080808080808080808080);
}

alt_planes : Planes
alt_planes = record {
  y = plane 16 16 (
      be_bytes 16 0x8080807f8083898f94928c888a889684
      ++ be_bytes 16 0x8080807f7d7f858b908d88838188967c
      ++ be_bytes 16 0x8080807e797a7f858a88827e76889670
      ++ be_bytes 16 0x8080807d76767c8181807c786d889668
      ++ be_bytes 16 0x8080807e5d496162787776756e878b78
      ++ be_bytes 16 0x8080807f545e6b5e747474747e848d93
      ++ be_bytes 16 0x8080807f576b6a67747474746872828c
      ++ be_bytes 16 0x8080807d646a5d797474747362859991
      ++ be_bytes 16 0x8080807c6860626c757575756f68615b
      ++ be_bytes 16 0x8080807a6860626c757577797b7b7a78
      ++ be_bytes 16 0x8080807b6a62646e75757677797c8083
      ++ be_bytes 16 0x8080807c6b63656f7375757887929a9f
      ++ be_bytes 16 0x8080807d6c6466707275757788939996
      ++ be_bytes 16 0x8080807e6d6567717073757588939996
      ++ be_bytes 16 0x808080806f6769737171757588939996
      ++ be_bytes 16 0x808080806f6769737370737588939996);
  u = plane 8 8 (be_bytes 64 0x8080808080808080808080808080808080818282818080807f818383818080807e818585828080807d818686828080807d828888838080807d82888883808080);
  v = plane 8 8 (be_bytes 64 0x80808080808080808080808080808080808080808080808080808080808080808080808080808080808080808080808080808080808080808080808080808080);
}

last_planes : Planes
last_planes = record {
  y = plane 16 16 (
      be_bytes 16 0x80848a9194918b88898c938384848484
      ++ be_bytes 16 0x8083899093908a87888c938283838383
      ++ be_bytes 16 0x7c7e848b8f8b8680808d90777a797979
      ++ be_bytes 16 0x7a7c81878885807977908c6a6e6d6d6d
      ++ be_bytes 16 0x6e6c777b7f7d7b73708f8b676a6a6a6a
      ++ be_bytes 16 0x524f616478757573778b897f80808080
      ++ be_bytes 16 0x53686963767474757c818c9292929292
      ++ be_bytes 16 0x5c6c676f7474756f677c8c8f8f8f8f8f
      ++ be_bytes 16 0x666463797374756e627e847c84848484
      ++ be_bytes 16 0x6560646e757576766e655d5a5d5d5d5d
      ++ be_bytes 16 0x6561646f7575787b7c7e7f7e7d7c7c7c
      ++ be_bytes 16 0x676266707575767884898e918a8a8a8a
      ++ be_bytes 16 0x686367707475757b8b969d9f9f9f9f9f
      ++ be_bytes 16 0x696468717275757a8b95989595959595
      ++ be_bytes 16 0x6b666b71707474798b95999696969696
      ++ be_bytes 16 0x6c676c73717274798b95999696969696);
  u = plane 8 8 (be_bytes 64 0x80808080808080808080808080808080818181808080808083838180808080808484828080808080868682808080808087878380808080808888838080808080);
  v = plane 8 8 (be_bytes 64 0x80808080808080808080808080808080808080818181818180808081818182828080818182828383808081818283848480808182838485858080818283848585);
}

later_state : StateData
later_state = record {
  kept = record { absolute = false; quantisers = pos 1 ∷ pos 2 ∷ pos 3 ∷ negsuc 19 ∷ []; levels = pos 0 ∷ pos 0 ∷ pos 0 ∷ pos 9 ∷ []; ref_deltas = pos 2 ∷ negsuc 2 ∷ pos 4 ∷ negsuc 4 ∷ []; mode_deltas = pos 6 ∷ negsuc 6 ∷ pos 8 ∷ negsuc 8 ∷ []; bias_golden = true; bias_alt = true; map = 3 ∷ []; probs = record { coefficients = slice_set default_coefficients_of 298 90; vectors = slice_set (slice_set default_vectors_of 3 1) 25 200; y = 100 ∷ 90 ∷ 80 ∷ 70 ∷ []; chroma = 162 ∷ 101 ∷ 204 ∷ [] } };
  references = Some (record { width = 16; height = 16; last = last_planes; golden = golden_planes; alt = alt_planes });
}

later_digest : digest_of later_state ≡ be_bytes 32 0xbf7ed72ca1a91cade4c25c93e7aba74954ec19347bec99c0098557afbd3e2f62
unfolding golden_planes alt_planes last_planes later_state digest_of planes_digest state_bytes sha256 digest_bytes hash_after compress rounds schedule first_words initial_table default_coefficients_of default_rows default_vectors_of inter_y_probabilities_of inter_chroma_probabilities_of
later_digest = refl
