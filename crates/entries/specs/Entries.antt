-- From the theorem to the code: what the contract of each function ensures is `Did` of its call, and `Drew` for a draw.
-- `Learnt` is what the toolchain reads off a function's own `ensures`: of its arguments before, its result and its arguments after.
use Rattle.std.specs.Prelude.{Bool, List, ℕ, length, Float}
use denote.Bor.{Bor}
use denote.Ref.{MutBor, at_last}
use contract.Lifetimes.{Lfts}
use Rattle.stack.specs.Stack.{MatrixUpdate, MatrixCall}
use Rattle.arrays.specs.Arrays.{ArrayCall}
use Rattle.arrays.specs.Attributes.{AttributeCall}
use Rattle.pipeline.specs.Pipeline.{PipelineCall}
use Rattle.vertex.specs.Scene.{Source}
use Rattle.context.specs.declared.Context.{Context}
use Rattle.context.specs.declared.Reply.{Reply}
use Rattle.context.specs.declared.GenReply.{GenReply}
use Rattle.context.specs.declared.ErrorReply.{ErrorReply}
use Rattle.context.specs.declared.DrawReply.{DrawReply}
use Rattle.context.specs.State.{Fresh}
use Rattle.context.specs.Calls.{BufferCall, ObjectCall, Call}
use Rattle.context.specs.Contract.{Did, Does, draw_call}
use Rattle.history.specs.Demand3.{DrawDid}
use Rattle.context.proofs.Context.new.Reads as new-promise
use Rattle.gles_matrix.proofs.set_matrix_mode.Reads as set-matrix-mode-promise
use Rattle.gles_matrix.proofs.load_identity.Reads as load-identity-promise
use Rattle.gles_matrix.proofs.load_matrix.Reads as load-matrix-promise
use Rattle.gles_matrix.proofs.mult_matrix.Reads as mult-matrix-promise
use Rattle.gles_matrix.proofs.push_matrix.Reads as push-matrix-promise
use Rattle.gles_matrix.proofs.pop_matrix.Reads as pop-matrix-promise
use Rattle.gles_matrix.proofs.translate.Reads as translate-promise
use Rattle.gles_matrix.proofs.scale.Reads as scale-promise
use Rattle.gles_matrix.proofs.rotate.Reads as rotate-promise
use Rattle.gles_matrix.proofs.frustum.Reads as frustum-promise
use Rattle.gles_matrix.proofs.ortho.Reads as ortho-promise
use Rattle.gles_buffers.proofs.gen_buffers.Reads as gen-buffers-promise
use Rattle.gles_buffers.proofs.bind_buffer.Reads as bind-buffer-promise
use Rattle.gles_buffers.proofs.delete_buffers.Reads as delete-buffers-promise
use Rattle.gles_buffers.proofs.buffer_data.Reads as buffer-data-promise
use Rattle.gles_buffers.proofs.buffer_sub_data.Reads as buffer-sub-data-promise
use Rattle.gles_arrays.proofs.set_vertex_pointer.Reads as set-vertex-pointer-promise
use Rattle.gles_arrays.proofs.set_color_pointer.Reads as set-color-pointer-promise
use Rattle.gles_arrays.proofs.set_normal_pointer.Reads as set-normal-pointer-promise
use Rattle.gles_arrays.proofs.set_texcoord_pointer.Reads as set-texcoord-pointer-promise
use Rattle.gles_arrays.proofs.set_client_state.Reads as set-client-state-promise
use Rattle.gles_arrays.proofs.set_client_active_texture.Reads as set-client-active-texture-promise
use Rattle.gles_arrays.proofs.set_color.Reads as set-color-promise
use Rattle.gles_arrays.proofs.set_multi_texcoord.Reads as set-multi-texcoord-promise
use Rattle.gles_pipeline.proofs.set_active_texture.Reads as set-active-texture-promise
use Rattle.gles_pipeline.proofs.set_capability.Reads as set-capability-promise
use Rattle.gles_pipeline.proofs.tex_env.Reads as tex-env-promise
use Rattle.gles_pipeline.proofs.set_tex_env_color.Reads as set-tex-env-color-promise
use Rattle.gles_pipeline.proofs.set_depth_func.Reads as set-depth-func-promise
use Rattle.gles_pipeline.proofs.set_depth_range.Reads as set-depth-range-promise
use Rattle.gles_pipeline.proofs.set_alpha_func.Reads as set-alpha-func-promise
use Rattle.gles_pipeline.proofs.set_blend_func.Reads as set-blend-func-promise
use Rattle.gles_pipeline.proofs.set_cull_face.Reads as set-cull-face-promise
use Rattle.gles_pipeline.proofs.set_front_face.Reads as set-front-face-promise
use Rattle.gles_pipeline.proofs.set_fog.Reads as set-fog-promise
use Rattle.gles_pipeline.proofs.take_error.Reads as take-error-promise
use Rattle.gles_draws.proofs.draw_elements.Reads as draw-elements-promise
use Rattle.gles_draws.proofs.draw_arrays.Reads as draw-arrays-promise
use Rattle.gles_draws.proofs.draw_elements_from_guest.Reads as draw-elements-from-guest-promise

-- a function that borrows nothing: its arguments stay as they are
abbrev Of : {A R : Type 0} → (Unit {0} → A → R → A → Type 0) → A → R → Type 0
Of promise args r = promise tt args r args

pub record Entries : Type 0 where
  pub new : (c : Context) → new-promise.Learnt tt tt c tt → Fresh c
  pub set_matrix_mode : (c : Context) (code : ℕ) (r : Reply)
      → Of set-matrix-mode-promise.Learnt (c, (code, tt)) r
      → Does (Call.mode code) c r.number r.context
  pub load_identity_call : (c : Context) (r : Reply)
      → Of load-identity-promise.Learnt (c, tt) r
      → Does (Call.matrix (MatrixCall.update MatrixUpdate.load_identity)) c r.number r.context
  pub load_matrix : (c : Context) (m : List Float) (r : Reply)
      → Of load-matrix-promise.Learnt (c, (m, tt)) r
      → Does (Call.matrix (MatrixCall.update (MatrixUpdate.load m))) c r.number r.context
  pub mult_matrix : (c : Context) (m : List Float) (r : Reply)
      → Of mult-matrix-promise.Learnt (c, (m, tt)) r
      → Does (Call.matrix (MatrixCall.update (MatrixUpdate.mult m))) c r.number r.context
  pub push_matrix : (c : Context) (r : Reply)
      → Of push-matrix-promise.Learnt (c, tt) r
      → Does (Call.matrix MatrixCall.push) c r.number r.context
  pub pop_matrix : (c : Context) (r : Reply)
      → Of pop-matrix-promise.Learnt (c, tt) r
      → Does (Call.matrix MatrixCall.pop) c r.number r.context
  pub translate : (c : Context) (x y z : Float) (r : Reply)
      → Of translate-promise.Learnt (c, (x, (y, (z, tt)))) r
      → Does (Call.matrix (MatrixCall.update (MatrixUpdate.translate x y z))) c r.number r.context
  pub scale : (c : Context) (x y z : Float) (r : Reply)
      → Of scale-promise.Learnt (c, (x, (y, (z, tt)))) r
      → Does (Call.matrix (MatrixCall.update (MatrixUpdate.scale x y z))) c r.number r.context
  pub rotate : (c : Context) (cosine sine x y z : Float) (r : Reply)
      → Of rotate-promise.Learnt (c, (cosine, (sine, (x, (y, (z, tt)))))) r
      → Does (Call.matrix (MatrixCall.update (MatrixUpdate.rotate cosine sine x y z))) c r.number r.context
  pub frustum : (c : Context) (left right bottom top near far : Float) (r : Reply)
      → Of frustum-promise.Learnt (c, (left, (right, (bottom, (top, (near, (far, tt))))))) r
      → Does (Call.matrix (MatrixCall.update (MatrixUpdate.frustum left right bottom top near far))) c r.number r.context
  pub ortho : (c : Context) (left right bottom top near far : Float) (r : Reply)
      → Of ortho-promise.Learnt (c, (left, (right, (bottom, (top, (near, (far, tt))))))) r
      → Does (Call.matrix (MatrixCall.update (MatrixUpdate.ortho left right bottom top near far))) c r.number r.context
  pub gen_buffers_call : (c : Context) (n : ℕ) (r : GenReply)
      → Of gen-buffers-promise.Learnt (c, (n, tt)) r
      → Does (Call.object (ObjectCall.buffer (BufferCall.gen_buffers n))) c r.number r.context
  pub bind_buffer_call : (c : Context) (target name : ℕ) (r : Reply)
      → Of bind-buffer-promise.Learnt (c, (target, (name, tt))) r
      → Does (Call.object (ObjectCall.buffer (BufferCall.bind_buffer target name))) c r.number r.context
  pub delete_buffers_call : (κs : Lfts 1) (c : Context) (names : Bor (List ℕ)) (r : Reply)
      → delete-buffers-promise.Learnt κs (c, (names, tt)) r (c, (names, tt))
      → Does (Call.object (ObjectCall.buffer (BufferCall.delete_buffers names.now))) c r.number r.context
  pub buffer_data_call : (κs : Lfts 2) (c : Context) (store : MutBor (List ℕ)) (bytes : Bor (List ℕ)) (s1 : List ℕ) (target size usage : ℕ) (r : Reply)
      → buffer-data-promise.Learnt κs (c, (store, (target, (size, (bytes, (usage, tt)))))) r (c, (at_last store s1, (target, (size, (bytes, (usage, tt))))))
      → Did (Call.object (ObjectCall.buffer (BufferCall.buffer_data target size bytes.now usage))) c store.now r.number r.context s1
  pub buffer_sub_data_call : (κs : Lfts 2) (c : Context) (store : MutBor (List ℕ)) (bytes : Bor (List ℕ)) (s1 : List ℕ) (target offset : ℕ) (r : Reply)
      → buffer-sub-data-promise.Learnt κs (c, (store, (target, (offset, (bytes, tt))))) r (c, (at_last store s1, (target, (offset, (bytes, tt)))))
      → Did (Call.object (ObjectCall.buffer (BufferCall.buffer_sub_data target offset bytes.now))) c store.now r.number r.context s1
  pub set_vertex_pointer : (c : Context) (size ty stride pointer : ℕ) (r : Reply)
      → Of set-vertex-pointer-promise.Learnt (c, (size, (ty, (stride, (pointer, tt))))) r
      → Does (Call.object (ObjectCall.array (ArrayCall.vertex_pointer size ty stride pointer))) c r.number r.context
  pub set_color_pointer : (c : Context) (size ty stride pointer : ℕ) (r : Reply)
      → Of set-color-pointer-promise.Learnt (c, (size, (ty, (stride, (pointer, tt))))) r
      → Does (Call.object (ObjectCall.array (ArrayCall.color_pointer size ty stride pointer))) c r.number r.context
  pub set_normal_pointer : (c : Context) (ty stride pointer : ℕ) (r : Reply)
      → Of set-normal-pointer-promise.Learnt (c, (ty, (stride, (pointer, tt)))) r
      → Does (Call.object (ObjectCall.array (ArrayCall.normal_pointer ty stride pointer))) c r.number r.context
  pub set_texcoord_pointer : (c : Context) (size ty stride pointer : ℕ) (r : Reply)
      → Of set-texcoord-pointer-promise.Learnt (c, (size, (ty, (stride, (pointer, tt))))) r
      → Does (Call.object (ObjectCall.array (ArrayCall.texcoord_pointer size ty stride pointer))) c r.number r.context
  pub set_client_state : (c : Context) (which : ℕ) (on : Bool) (r : Reply)
      → Of set-client-state-promise.Learnt (c, (which, (on, tt))) r
      → Does (Call.object (ObjectCall.array (ArrayCall.client_state which on))) c r.number r.context
  pub set_client_active_texture : (c : Context) (unit : ℕ) (r : Reply)
      → Of set-client-active-texture-promise.Learnt (c, (unit, tt)) r
      → Does (Call.object (ObjectCall.array (ArrayCall.client_unit unit))) c r.number r.context
  pub set_color : (c : Context) (rgba : List Float) (r : Reply)
      → Of set-color-promise.Learnt (c, (rgba, tt)) r
      → Does (Call.attribute (AttributeCall.color rgba)) c r.number r.context
  pub set_multi_texcoord : (c : Context) (unit : ℕ) (x y : Float) (r : Reply)
      → Of set-multi-texcoord-promise.Learnt (c, (unit, (x, (y, tt)))) r
      → Does (Call.attribute (AttributeCall.multi_texcoord unit x y)) c r.number r.context
  pub set_active_texture : (c : Context) (unit : ℕ) (r : Reply)
      → Of set-active-texture-promise.Learnt (c, (unit, tt)) r
      → Does (Call.pipeline (PipelineCall.active_texture unit)) c r.number r.context
  pub set_capability : (c : Context) (cap : ℕ) (on : Bool) (r : Reply)
      → Of set-capability-promise.Learnt (c, (cap, (on, tt))) r
      → Does (Call.pipeline (PipelineCall.capability cap on)) c r.number r.context
  pub tex_env_call : (c : Context) (pname value : ℕ) (r : Reply)
      → Of tex-env-promise.Learnt (c, (pname, (value, tt))) r
      → Does (Call.pipeline (PipelineCall.tex_env pname value)) c r.number r.context
  pub set_tex_env_color : (c : Context) (rgba : List Float) (r : Reply)
      → Of set-tex-env-color-promise.Learnt (c, (rgba, tt)) r
      → Does (Call.pipeline (PipelineCall.tex_env_color rgba)) c r.number r.context
  pub set_depth_func : (c : Context) (func : ℕ) (r : Reply)
      → Of set-depth-func-promise.Learnt (c, (func, tt)) r
      → Does (Call.pipeline (PipelineCall.depth_func func)) c r.number r.context
  pub set_depth_range : (c : Context) (near far : Float) (r : Reply)
      → Of set-depth-range-promise.Learnt (c, (near, (far, tt))) r
      → Does (Call.pipeline (PipelineCall.depth_range near far)) c r.number r.context
  pub set_alpha_func : (c : Context) (func : ℕ) (reference : Float) (r : Reply)
      → Of set-alpha-func-promise.Learnt (c, (func, (reference, tt))) r
      → Does (Call.pipeline (PipelineCall.alpha_func func reference)) c r.number r.context
  pub set_blend_func : (c : Context) (src dst : ℕ) (r : Reply)
      → Of set-blend-func-promise.Learnt (c, (src, (dst, tt))) r
      → Does (Call.pipeline (PipelineCall.blend_func src dst)) c r.number r.context
  pub set_cull_face : (c : Context) (code : ℕ) (r : Reply)
      → Of set-cull-face-promise.Learnt (c, (code, tt)) r
      → Does (Call.pipeline (PipelineCall.cull_face code)) c r.number r.context
  pub set_front_face : (c : Context) (code : ℕ) (r : Reply)
      → Of set-front-face-promise.Learnt (c, (code, tt)) r
      → Does (Call.pipeline (PipelineCall.front_face code)) c r.number r.context
  pub set_fog : (c : Context) (pname : ℕ) (value : Float) (r : Reply)
      → Of set-fog-promise.Learnt (c, (pname, (value, tt))) r
      → Does (Call.pipeline (PipelineCall.fog pname value)) c r.number r.context
  pub take_error_call : (c : Context) (r : ErrorReply)
      → Of take-error-promise.Learnt (c, tt) r
      → Does Call.take_error c r.number r.context
  pub draw_elements : (κs : Lfts 3) (c : Context) (store guest indices : Bor (List ℕ)) (out : MutBor (List Float)) (out1 : List Float) (base code stages : ℕ) (r : DrawReply)
      → draw-elements-promise.Learnt κs (c, (store, (base, (guest, (code, (indices, (stages, (out, tt)))))))) r
      (c, (store, (base, (guest, (code, (indices, (stages, (at_last out out1, tt))))))))
      → DrawDid (draw_call (Source.list indices.now) code stages base guest.now (length out.now)) c store.now r out.now out1
  pub draw_arrays : (κs : Lfts 2) (c : Context) (store guest : Bor (List ℕ)) (out : MutBor (List Float)) (out1 : List Float) (base code first count stages : ℕ) (r : DrawReply)
      → draw-arrays-promise.Learnt κs (c, (store, (base, (guest, (code, (first, (count, (stages, (out, tt))))))))) r
      (c, (store, (base, (guest, (code, (first, (count, (stages, (at_last out out1, tt)))))))))
      → DrawDid (draw_call (Source.range first count) code stages base guest.now (length out.now)) c store.now r out.now out1
  pub draw_elements_from_guest : (κs : Lfts 2) (c : Context) (store guest : Bor (List ℕ)) (out : MutBor (List Float)) (out1 : List Float)
      (base code count ty pointer stages : ℕ) (r : DrawReply)
      → draw-elements-from-guest-promise.Learnt κs (c, (store, (base, (guest, (code, (count, (ty, (pointer, (stages, (out, tt)))))))))) r
      (c, (store, (base, (guest, (code, (count, (ty, (pointer, (stages, (at_last out out1, tt))))))))))
      → DrawDid (draw_call (Source.elements count ty pointer) code stages base guest.now (length out.now)) c store.now r out.now out1

pub entries : Entries
entries =
    record {
      new = λ c p. p;
      set_matrix_mode = λ c code r p. p;
      load_identity_call = λ c r p. p;
      load_matrix = λ c m r p. p;
      mult_matrix = λ c m r p. p;
      push_matrix = λ c r p. p;
      pop_matrix = λ c r p. p;
      translate = λ c x y z r p. p;
      scale = λ c x y z r p. p;
      rotate = λ c cosine sine x y z r p. p;
      frustum = λ c left right bottom top near far r p. p;
      ortho = λ c left right bottom top near far r p. p;
      gen_buffers_call = λ c n r p. p.0;
      bind_buffer_call = λ c target name r p. p;
      delete_buffers_call = λ κs c names r p. p;
      buffer_data_call = λ κs c store bytes s1 target size usage r p. p;
      buffer_sub_data_call = λ κs c store bytes s1 target offset r p. p;
      set_vertex_pointer = λ c size ty stride pointer r p. p;
      set_color_pointer = λ c size ty stride pointer r p. p;
      set_normal_pointer = λ c ty stride pointer r p. p;
      set_texcoord_pointer = λ c size ty stride pointer r p. p;
      set_client_state = λ c which on r p. p;
      set_client_active_texture = λ c unit r p. p;
      set_color = λ c rgba r p. p;
      set_multi_texcoord = λ c unit x y r p. p;
      set_active_texture = λ c unit r p. p;
      set_capability = λ c cap on r p. p;
      tex_env_call = λ c pname value r p. p;
      set_tex_env_color = λ c rgba r p. p;
      set_depth_func = λ c func r p. p;
      set_depth_range = λ c near far r p. p;
      set_alpha_func = λ c func reference r p. p;
      set_blend_func = λ c src dst r p. p;
      set_cull_face = λ c code r p. p;
      set_front_face = λ c code r p. p;
      set_fog = λ c pname value r p. p;
      take_error_call = λ c r p. p.0;
      draw_elements = λ κs c store guest indices out out1 base code stages r p. p;
      draw_arrays = λ κs c store guest out out1 base code first count stages r p. p;
      draw_elements_from_guest = λ κs c store guest out out1 base code count ty pointer stages r p. p;
    }
